-- Beginnings of a list of steps, and which of them leaves the fewest wires.
use Rattle.std.proofs.Common.{◌≡◌, ℕ, ◌+◌, ◌<◌, ◌≤◌, List, [], ◌∷◌, ◌++◌, length, refl, ap, sym, ◌∙◌, subst, inl, inr, arith}
use Rattle.std.specs.Prelude.{take}
use Rattle.std.proofs.Math.Seq.{take-length}
use Rattle.std.proofs.lemmas.Bool.{cases_lt}
use Rattle.std.proofs.lemmas.List.{length_push, take-append-le}
use Rattle.gate_net.specs.Net.{Net, wire_count}
use Rattle.rm_base.proofs.Public.{take_zero}
use Rattle.wire_edit.specs.declared.steps.Step.{Step}
use Rattle.wire_edit.specs.Steps.{stepped}
use Rattle.step_replay.specs.declared.choosing.Best.{Best}
use Rattle.step_replay.specs.Rebuilding.{after, wires_after}
use Rattle.step_replay.specs.Inner.Making.{IsBestOf}

pub after_one_more : (net : Net) (steps : List Step) (step : Step) → after net (steps ++ step ∷ []) ≡ stepped (after net steps) step
after_one_more net [] step = refl
after_one_more net (s ∷ steps) step = after_one_more (stepped net s) steps step

-- before the first step
pub best_first : (net : Net) (steps : List Step) (b : Best) → b.taken ≡ 0 → b.wires ≡ wire_count net → IsBestOf net (take 0 steps) b
best_first net steps b none e =
    subst (λ (ss : List Step). IsBestOf net ss b) (sym (take_zero steps)) (record {
      best = record {
        within = omega (arith, none);
        fewest = λ k le. let same : b.taken ≡ k = omega (arith, none, le) in let w : wires_after net [] b.taken ≡ wires_after net [] k = ap (wires_after net []) same in omega (arith, w);
        longest = λ k gt le. absurd (omega (arith, gt, le));
      };
      wires = e ∙ ap wire_count (sym (ap (after net) (take_zero []))) ∙ ap (wires_after net []) (sym none);
    })

module _ (net : Net) (steps : List Step) (step : Step) where
  abbrev all : List Step
  all = steps ++ step ∷ []

  count : length all ≡ length steps + 1
  count = length_push steps step

  old : (k : ℕ) → k ≤ length steps → wires_after net all k ≡ wires_after net steps k
  old k le = ap (λ (ss : List Step). wire_count (after net ss)) (take-append-le k steps (step ∷ []) le)

  new : (k : ℕ) → k ≡ length steps + 1 → wires_after net all k ≡ wire_count (stepped (after net steps) step)
  new k e =
      let whole : take k all ≡ all = subst (λ (n : ℕ). take n all ≡ all) (count ∙ sym e) (take-length all) in
      ap (λ (ss : List Step). wire_count (after net ss)) whole ∙ ap wire_count (after_one_more net steps step)

  module _ (b later : Best) (so_far : IsBestOf net steps b) (taken : later.taken ≡ length steps + 1) (wires : later.wires ≡ wire_count (stepped (after net steps) step)) where
    here : wires_after net all later.taken ≡ later.wires
    here = new later.taken taken ∙ sym wires

    there : wires_after net all b.taken ≡ b.wires
    there = old b.taken so_far.best.within ∙ sym so_far.wires

    old_ones : (k : ℕ) → k ≤ length steps → b.wires ≤ wires_after net all k
    old_ones k le = let a : wires_after net steps b.taken ≤ wires_after net steps k = so_far.best.fewest k le in omega (arith, a, old k le, so_far.wires)

    new_one : (k : ℕ) → k ≤ length all → length steps < k → wires_after net all k ≡ later.wires
    new_one k le gt = new k (omega (arith, le, gt, count)) ∙ sym wires

    best_later : later.wires ≤ b.wires → IsBestOf net all later
    best_later fewer = record {
      best = record {
        within = omega (arith, taken, count);
        fewest = λ k le. elim (cases_lt (length steps) k) [
          | inl gt ↦ let a : wires_after net all k ≡ later.wires = new_one k le gt in omega (arith, a, here)
          | inr low ↦ let a : b.wires ≤ wires_after net all k = old_ones k low in omega (arith, a, here, fewer)
        ];
        longest = λ k gt le. absurd (omega (arith, gt, le, taken, count));
      };
      wires = sym here;
    }

    best_stays : b.wires < later.wires → IsBestOf net all b
    best_stays more = record {
      best = record {
        within = omega (arith, so_far.best.within, count);
        fewest = λ k le. elim (cases_lt (length steps) k) [
          | inl gt ↦ let a : wires_after net all k ≡ later.wires = new_one k le gt in omega (arith, a, there, more)
          | inr low ↦ let a : b.wires ≤ wires_after net all k = old_ones k low in omega (arith, a, there)
        ];
        longest = λ k gt le. elim (cases_lt (length steps) k) [
          | inl last ↦ let a : wires_after net all k ≡ later.wires = new_one k le last in omega (arith, a, there, more)
          | inr low ↦ let a : wires_after net steps b.taken < wires_after net steps k = so_far.best.longest k gt low in omega (arith, a, old k low, there, so_far.wires)
        ];
      };
      wires = sym there;
    }

    pub best_next : (r : Best) → (later.wires ≤ b.wires → r ≡ later) → (b.wires < later.wires → r ≡ b) → IsBestOf net all r
    best_next r to_later to_best = elim (cases_lt b.wires later.wires) [
      | inl more ↦ subst (IsBestOf net all) (sym (to_best more)) (best_stays more)
      | inr fewer ↦ subst (IsBestOf net all) (sym (to_later fewer)) (best_later fewer)
    ]
