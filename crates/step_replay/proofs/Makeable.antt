-- Accepted steps may be made one after another, in small nets.
use Rattle.std.proofs.Common.{◌≡◌, ◌≤◌, ℕ, zero, suc, List, [], ◌∷◌, length, refl, ap, ◌∙◌, subst, arith}
use Rattle.std.specs.Prelude.{take}
use Rattle.std.proofs.lemmas.List.{length-map}
use Rattle.rm_model.specs.Value.{observed_names}
use Rattle.rm_model.specs.declared.parts.Model.{Model}
use Rattle.gate_net.specs.Net.{Net, IsWellFormed, wire_count}
use Rattle.cover_decompose.specs.Count.{decomposed}
use Rattle.cover_decompose.specs.Decomposition.{net_of_model}
use Rattle.cover_decompose.specs.Limits.{most_pins}
use Rattle.wire_edit.specs.declared.steps.Step.{Step}
use Rattle.wire_edit.specs.Steps.{stepped}
use Rattle.journal_text.specs.declared.record.Record.{Record}
use Rattle.journal_text.specs.declared.record.Record.TheVariants as kept
use Rattle.journal_text.specs.Accepted.{AcceptedStepsKeep}
use Rattle.journal_text.specs.Runs.{AcceptedTo, steps_of}
use Rattle.journal_check.specs.Inner.Within.{IsWithin}
use Rattle.journal_check.proofs.Public.{nodes_bounded, stays_within, wires_bounded, within_few}
use Rattle.step_replay.specs.Rebuilding.{AreAcceptedSteps, after}
use Rattle.step_replay.specs.Inner.Making.{AreMakeable, IsSmall}

small : (net : Net) → IsWithin net → IsSmall net
small net w = record { wires = wires_bounded net w; nodes = nodes_bounded net w; observed = w.observed }

makeable : AcceptedStepsKeep → (net last : Net) (records : List Record) → IsWellFormed net → IsWithin net → AcceptedTo net records last → AreMakeable net (steps_of records)
makeable keep net last [] well w a = small net w
makeable keep net last (kept.Step s tree ∷ records) well w a =
    let form : IsWellFormed (stepped net s) = (keep net s tree well a.0).form in
    (small net w, (a.0.applies, (a.0.grows, makeable keep (stepped net s) last records form (stays_within net s well a.0.applies a.0.grows w) a.1)))
makeable keep net last (kept.Hit fault vector ∷ records) well w a = absurd a
makeable keep net last (kept.Spent fault tree ∷ records) well w a = absurd a

-- a decomposition within the limit is small enough
few_observed : (m : Model) → length (net_of_model m).observed ≡ length (observed_names m)
few_observed m = length-map (observed_names m) _

decomposed_within : (m : Model) → wire_count (net_of_model m) ≡ decomposed m → decomposed m ≤ most_pins → length (net_of_model m).nodes ≤ 66562 → length (observed_names m) ≤ 4096 → IsWithin (net_of_model m)
decomposed_within m w d n o = within_few (net_of_model m) (omega (arith, w, d)) (omega (arith, n)) (omega (arith, few_observed m, o))

module _ (m : Model) (wires : wire_count (net_of_model m) ≡ decomposed m) (few : decomposed m ≤ most_pins) (nodes : length (net_of_model m).nodes ≤ 66562) (observed : length (observed_names m) ≤ 4096) where
  pub decomposed_small : IsSmall (net_of_model m)
  decomposed_small = small (net_of_model m) (decomposed_within m wires few nodes observed)

  pub accepted_makeable : AcceptedStepsKeep → IsWellFormed (net_of_model m) → (steps : List Step) → AreAcceptedSteps (net_of_model m) steps → AreMakeable (net_of_model m) steps
  accepted_makeable keep well steps a =
      subst (AreMakeable (net_of_model m)) a.are (makeable keep (net_of_model m) a.last a.records well (decomposed_within m wires few nodes observed) a.led)

-- a beginning of accepted records leads to the net after its steps
pub record IsPart (net : Net) (records : List Record) (count : ℕ) : Type 0 where
  pub are : steps_of (take count records) ≡ take count (steps_of records)
  pub led : AcceptedTo net (take count records) (after net (take count (steps_of records)))

pub part : (net last : Net) (records : List Record) (count : ℕ) → AcceptedTo net records last → IsPart net records count
part net last [] zero a = record { are = refl; led = refl }
part net last [] (suc count) a = record { are = refl; led = refl }
part net last (kept.Step s tree ∷ records) zero a = record { are = refl; led = refl }
part net last (kept.Step s tree ∷ records) (suc count) a =
    let rest = part (stepped net s) last records count a.1 in
    record { are = ap (λ (ss : List Step). s ∷ ss) rest.are; led = (a.0, rest.led) }
part net last (kept.Hit fault vector ∷ records) count a = absurd a
part net last (kept.Spent fault tree ∷ records) count a = absurd a

-- the same, by the steps
pub record IsPartOf (net : Net) (steps : List Step) (count : ℕ) : Type 0 where
  pub records : List Record
  pub are : steps_of records ≡ take count steps
  pub led : AcceptedTo net records (after net (take count steps))

pub part_of : (net : Net) (steps : List Step) (count : ℕ) → AreAcceptedSteps net steps → IsPartOf net steps count
part_of net steps count a =
    let p = part net a.last a.records count a.led in
    record {
      records = take count a.records;
      are = p.are ∙ ap (take count) a.are;
      led = subst (λ (ss : List Step). AcceptedTo net (take count a.records) (after net (take count ss))) a.are p.led;
    }

pub accepted_part : (net : Net) (steps : List Step) (count : ℕ) → AreAcceptedSteps net steps → AreAcceptedSteps net (take count steps)
accepted_part net steps count a =
    let p = part_of net steps count a in
    record { records = p.records; last = after net (take count steps); are = p.are; led = p.led }
