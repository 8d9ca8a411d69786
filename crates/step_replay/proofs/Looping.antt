-- One step more in the loop over all steps.
use Rattle.std.proofs.Common.{◌≡◌, ℕ, ◌+◌, ◌<◌, ◌≤◌, List, [], ◌∷◌, ◌++◌, drop, length, take, ap, sym, ◌∙◌, subst, arith}
use Rattle.std.specs.Prelude.{Some, get_or, slice_get}
use Rattle.std.proofs.lemmas.Option.{slice_get-get_or}
use Rattle.std.proofs.lemmas.List.{length-take-le, take_all}
use Rattle.gate_net.specs.Net.{Net, wire_count}
use Rattle.rm_base.proofs.Public.{take_one_more, take_zero}
use Rattle.wire_edit.specs.declared.steps.Step.{Step}
use Rattle.wire_edit.specs.Steps.{stepped}
use Rattle.step_replay.specs.declared.choosing.Best.{Best}
use Rattle.step_replay.specs.Rebuilding.{IsBest, after}
use Rattle.step_replay.specs.Inner.Making.{AreMakeable, IsBestOf}
use Rattle.step_replay.proofs.Beginnings.{after_one_more, best_first, best_next}
use Rattle.step_replay.proofs.Readying.{next_makeable}

-- after so many steps the others may be made, and that is the best beginning so far
pub record IsOn (first now : Net) (steps : List Step) (count : ℕ) (b : Best) : Type 0 where
  pub makeable : AreMakeable now (drop count steps)
  pub net : now ≡ after first (take count steps)
  pub best : IsBestOf first (take count steps) b

module _ (first now next : Net) (steps : List Step) (i : ℕ) (d : Step) (b later : Best) (low : i < length steps) (on : IsOn first now steps i b) (made : next ≡ stepped now (get_or steps i d)) (taken : later.taken ≡ i + 1) (wires : later.wires ≡ wire_count next) where
  abbrev s : Step
  s = get_or steps i d

  there : slice_get steps i ≡ Some s
  there = slice_get-get_or steps i d low

  more : take (i + 1) steps ≡ take i steps ++ s ∷ []
  more = take_one_more steps i s there

  moved : next ≡ stepped (after first (take i steps)) s
  moved = made ∙ ap (λ (n : Net). stepped n s) on.net

  counted : length (take i steps) ≡ i
  counted = length-take-le i steps (omega (arith, low))

  left : AreMakeable now (s ∷ drop (i + 1) steps)
  left = next_makeable now steps i s there on.makeable

  pub one_more : (r : Best) → (later.wires ≤ b.wires → r ≡ later) → (b.wires < later.wires → r ≡ b) → IsOn first next steps (i + 1) r
  one_more r to_later to_best = record {
    makeable = subst (λ (n : Net). AreMakeable n (drop (i + 1) steps)) (sym made) left.1.1.1;
    net = moved ∙ sym (after_one_more first (take i steps) s) ∙ ap (after first) (sym more);
    best = subst (λ (ss : List Step). IsBestOf first ss r) (sym more)
        (best_next first (take i steps) s b later on.best (taken ∙ ap (λ (n : ℕ). n + 1) (sym counted)) (wires ∙ ap wire_count moved) r to_later to_best);
  }

-- before the first step
pub on_first : (net : Net) (steps : List Step) (b : Best) → AreMakeable net steps → b.taken ≡ 0 → b.wires ≡ wire_count net → IsOn net net steps 0 b
on_first net steps b makeable none wires = record { makeable = makeable; net = ap (after net) (sym (take_zero steps)); best = best_first net steps b none wires }

-- after the last one
pub on_last : (first now : Net) (steps : List Step) (count : ℕ) (b : Best) → length steps ≤ count → IsOn first now steps count b → (now ≡ after first steps) × IsBest first steps b.taken
on_last first now steps count b high on =
    let all : take count steps ≡ steps = take_all count steps high in
    (on.net ∙ ap (after first) all, subst (λ (ss : List Step). IsBest first ss b.taken) all on.best.best)
