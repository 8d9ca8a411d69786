-- What is left after all work on a gated net.
use Rattle.std.proofs.Common.{List, [], ap, arith, length, refl, subst, suc, sym, ℕ, ◌+◌, ◌∙◌, ◌∷◌, ◌≡◌, ◌≤◌}
use Rattle.std.specs.Prelude.{slice_get}
use Rattle.gate_graph.specs.Circuit.{net_of}
use Rattle.gate_net.specs.Net.{IsWellFormed, Net, Reads, wire_count}
use Rattle.joined_nets.specs.Joined.{both}
use Rattle.journal_text.specs.Runs.{counted, made_by, none_made, steps_of}
use Rattle.journal_text.specs.declared.record.Record.{Record}
use Rattle.refutation.specs.Detected.{HasOpenSet}
use Rattle.rm_base.specs.declared.numbers.Fault.{Fault}
use Rattle.rm_base.specs.declared.settings.Made.{Made}
use Rattle.wire_edit.specs.Laws.{StepsKeepForm, StepsKeepSources}
use Rattle.wire_edit.specs.Removals.{IsRemoval}
use Rattle.wire_edit.specs.Tried.{Tried}
use Rattle.wire_edit.specs.Work.{WiresGrow}
use Rattle.wire_edit.specs.declared.steps.Step.{Step}
use Rattle.wire_edit.specs.declared.steps.Step.TheVariants.{Add, Const, Dead, Fix, NewNot, NoPins, OnePin, Same, Twice, Twin}
use Rattle.care_opt.specs.Done.{AreRecordsOf}
use Rattle.care_opt.specs.Extract.{main_faults}
use Rattle.care_opt.specs.Gated.{IsMainFault, numbers_from}
use Rattle.care_opt.specs.Inner.Passing.{IsSomeGated, IsWorkedOn}
use Rattle.care_opt.specs.Inner.Standing.{IsExtractable, IsGatedOver}
use Rattle.care_opt.specs.Inner.Working.{Works}
use Rattle.care_opt.specs.MainSteps.{AreMainSteps, IsMainTidy, MainStepsTo}
use Rattle.care_opt.proofs.Extracted.{gate_reads, number_found}
use Rattle.care_opt.proofs.Sizes.{run_wires}
use Rattle.care_opt.proofs.Standing.{run_over}

numbers_size : (next : ℕ) (xs : List ℕ) → length (numbers_from next xs) ≡ length xs
numbers_size next [] = refl
numbers_size next (x ∷ xs) = ap (λ (i : ℕ). suc i) (numbers_size (suc next) xs)

-- main steps add no wire
one_added : (m : Made) (step : Step) → IsRemoval step → (counted m step).adds ≡ m.adds
one_added m (Add gate node) r = absurd r
one_added m (NewNot node) r = absurd r
one_added m (Fix gate position value) r = refl
one_added m (Const gate position) r = refl
one_added m (Same gate position) r = refl
one_added m (NoPins gate) r = refl
one_added m (OnePin gate) r = refl
one_added m (Twice gate) r = refl
one_added m (Twin gate other) r = refl
one_added m (Dead gate) r = refl

none_added : (bound : ℕ) (m : Made) (steps : List Step) → AreMainSteps bound steps → (made_by m steps).adds ≡ m.adds
none_added bound m [] h = refl
none_added bound m (s ∷ steps) h = none_added bound (counted m s) steps h.1 ∙ one_added m s h.0.1

same_made : (m : Made) (fixes : ℕ) → fixes ≡ m.fixes → m.adds ≡ 0 → (let r : Made = record { adds = 0; fixes = fixes; local = m.local } in r) ≡ m
same_made m fixes same e =
    ap (λ (i : ℕ). let r : Made = record { adds = 0; fixes = i; local = m.local } in r) same
    ∙ ap (λ (i : ℕ). let r : Made = record { adds = i; fixes = m.fixes; local = m.local } in r) (sym e)

module _ (bound : ℕ) (start : Net) (old new : Tried) (before after : Made) (is : net_of old.graph ≡ start) (works : Works bound old new before after) where
  reached : MainStepsTo bound start works.more (net_of new.graph)
  reached = subst (λ (n : Net). MainStepsTo bound n works.more (net_of new.graph)) is works.steps

  over_of : StepsKeepForm → StepsKeepSources → (g : IsSomeGated bound start) → IsGatedOver g.0 g.1.0 (net_of new.graph)
  over_of form keep (one, (two, (can, (over, (same, few))))) = run_over one two can form keep works.more start (net_of new.graph) over reached.accepted (subst (λ (i : ℕ). AreMainSteps i (steps_of works.more)) same reached.main)

  extractable_of : (form : StepsKeepForm) (keep : StepsKeepSources) (g : IsSomeGated bound start) → IsExtractable bound (net_of new.graph)
  extractable_of form keep (one, (two, (can, (over, (same, few))))) =
      let last : IsGatedOver one two (net_of new.graph) = over_of form keep (one, (two, (can, (over, (same, few))))) in
      record {
        early = let first = can.early in let s = last.sources in omega (arith, first, s, same);
        order = λ y p x lt reads. last.order y p x (omega (arith, lt, same)) reads;
        gates = λ k y at.
            let x = number_found (length (both one two)) one.observed k y (ap (λ (l : List ℕ). slice_get l k) (sym last.observed) ∙ at) in
            let reads : Reads (net_of new.graph) (length (both one two) + k) 0 (last.moved x.0) = ap (λ (ds : List ℕ). slice_get ds 0) (gate_reads one two can (net_of new.graph) last k x.0 x.1.0) in
            let low = last.low k x.0 x.1.0 in
            (last.moved x.0, (subst (λ (i : ℕ). Reads (net_of new.graph) i 0 (last.moved x.0)) (sym x.1.1) reads, omega (arith, low, same)));
      }

  observed_of : (form : StepsKeepForm) (keep : StepsKeepSources) (g : IsSomeGated bound start) → length (net_of new.graph).observed ≤ 4096
  observed_of form keep (one, (two, (can, (over, (same, few))))) =
      let last : IsGatedOver one two (net_of new.graph) = over_of form keep (one, (two, (can, (over, (same, few))))) in
      let size = ap (λ (l : List ℕ). length l) last.observed in
      let count = numbers_size (length (both one two)) one.observed in
      omega (arith, size, count, few)

pub extractable : StepsKeepForm → StepsKeepSources → (bound : ℕ) (start : Net) (old new : Tried) (before after : Made) → IsSomeGated bound start → net_of old.graph ≡ start → Works bound old new before after → IsExtractable bound (net_of new.graph)
extractable form keep bound start old new before after g is works = extractable_of bound start old new before after is works form keep g

pub few_observed : StepsKeepForm → StepsKeepSources → (bound : ℕ) (start : Net) (old new : Tried) (before after : Made) → IsSomeGated bound start → net_of old.graph ≡ start → Works bound old new before after → length (net_of new.graph).observed ≤ 4096
few_observed form keep bound start old new before after g is works = observed_of bound start old new before after is works form keep g

pub few_wires : StepsKeepForm → WiresGrow → (bound : ℕ) (start : Net) (old new : Tried) (before after : Made) → IsWellFormed start → net_of old.graph ≡ start → Works bound old new before after → wire_count (net_of new.graph) ≤ wire_count start
few_wires form grow bound start old new before after formed is works = let r = reached bound start old new before after is works in run_wires form grow bound works.more start (net_of new.graph) formed r.accepted r.main

pub worked_on : (bound : ℕ) (start : Net) (depth budget : ℕ) (old new : Tried) (after : Made) (fixes : ℕ) (records : List Record) → fixes ≡ after.fixes → net_of old.graph ≡ start → Works bound old new none_made after → IsMainTidy bound (net_of new.graph)
    → AreRecordsOf (net_of new.graph) budget (main_faults bound (net_of new.graph)) records → ((fault : Fault) → IsMainFault bound (net_of new.graph) fault → HasOpenSet (net_of new.graph) fault depth)
    → IsWorkedOn bound start depth budget (net_of new.graph) (record { adds = 0; fixes = fixes; local = after.local }) records
worked_on bound start depth budget old new after fixes records same is works tidy closed unrefuted = record {
  steps = works.more;
  reached = reached bound start old new none_made after is works;
  counted = same_made after fixes same (ap (λ (m : Made). m.adds) works.counted ∙ none_added bound none_made (steps_of works.more) works.steps.main) ∙ works.counted;
  is_tidy = tidy;
  closed = closed;
  unrefuted = unrefuted;
}
