-- The tidying order to its end, and a fix before it.
use Rattle.std.proofs.Common.{◌≡◌, ℕ, zero, suc, ◌+◌, ◌<◌, ◌≤◌, Option, Some, None, refl, sym, ◌∙◌, subst, arith}
use Rattle.std.proofs.lemmas.Option.{slice_get_within}
use Rattle.rm_base.specs.declared.numbers.Fault.{Fault}
use Rattle.gate_net.specs.Net.{Net, drivers_of, IsGate, IsWellFormed, source_count, wire_count}
use Rattle.gate_net.specs.Edits.{fixed}
use Rattle.wire_edit.specs.declared.steps.Step.{Step}
use Rattle.wire_edit.specs.declared.steps.Step.TheVariants.{Add, Fix, NewNot, Const, Same, NoPins, OnePin, Twice, Twin, Dead}
use Rattle.wire_edit.specs.Laws.{IsTidying}
use Rattle.wire_edit.specs.Steps.{Applies, stepped, change_of}
use Rattle.wire_edit.specs.Order.{next_step}
use Rattle.wire_edit.specs.Work.{free_pins, pins_made, work, FixesPin}
use Rattle.wire_edit.specs.Tidying.{TidiesTo, tidy, then, IsTidiedNet}
use Rattle.wire_edit.specs.Removals.{IsRemoval, HasFreePin, ReadsNoConstants}
use Rattle.wire_edit.proofs.Tested.{is_gate_there, gate_is}
use Rattle.wire_edit.proofs.Conditions.{applies_changes}
use Rattle.wire_edit.proofs.Formed.{changes_keep_form}
use Rattle.wire_edit.proofs.Sources.{changes_keep_sources}
use Rattle.wire_edit.proofs.Ordering.{next_applies}
use Rattle.wire_edit.proofs.Ending.{tidying_ends, wires_grow}
use Rattle.wire_edit.proofs.FreePins.{reader_gate, tidy_reads_none, all_free, removal_frees, fix_frees}

pub tidying_removes : (step : Step) → IsTidying step → IsRemoval step
tidying_removes (Add gate y) t = t
tidying_removes (Fix gate position value) t = tt
tidying_removes (NewNot y) t = t
tidying_removes (Const gate position) t = tt
tidying_removes (Same gate position) t = tt
tidying_removes (NoPins gate) t = tt
tidying_removes (OnePin gate) t = tt
tidying_removes (Twice gate) t = tt
tidying_removes (Twin gate other) t = tt
tidying_removes (Dead gate) t = tt

pub removal_pins : (step : Step) → IsRemoval step → pins_made step ≡ 0
removal_pins (Add gate y) t = absurd t
removal_pins (Fix gate position value) t = refl
removal_pins (NewNot y) t = absurd t
removal_pins (Const gate position) t = refl
removal_pins (Same gate position) t = refl
removal_pins (NoPins gate) t = refl
removal_pins (OnePin gate) t = refl
removal_pins (Twice gate) t = refl
removal_pins (Twin gate other) t = refl
removal_pins (Dead gate) t = refl

pub step_formed : (net : Net) (step : Step) → IsWellFormed net → Applies net step → IsWellFormed (stepped net step)
step_formed net step well applies = changes_keep_form net (change_of net step) well (applies_changes net step well applies)

-- what holds after one step of the order, and after the rest, holds after all
pub tidied_keeps : {net after : Net} → IsWellFormed net → TidiesTo net after → IsTidiedNet net after
tidied_keeps well (tidy is) = record { formed = well; is_tidy = is; sources = refl; wires = omega arith; free = omega arith }
tidied_keeps {net} {after} well (then step next more) =
    let n : IsTidying step × Applies net step = next_applies net step next in
    let r : IsRemoval step = tidying_removes step n.0 in
    let one : free_pins (stepped net step) ≤ free_pins net = removal_frees net step well n.1 r in
    let wires : wire_count (stepped net step) ≤ wire_count net + pins_made step = wires_grow net step well n.1 in
    let none : pins_made step ≡ 0 = removal_pins step r in
    let sources : source_count (stepped net step) ≡ source_count net = changes_keep_sources net (change_of net step) (applies_changes net step well n.1) in
    let rest : IsTidiedNet (stepped net step) after = tidied_keeps (step_formed net step well n.1) more in
    record {
      formed = rest.formed;
      is_tidy = rest.is_tidy;
      sources = rest.sources ∙ sources;
      wires = omega (arith, wires, none, rest.wires);
      free = omega (arith, one, rest.free);
    }

pub tidies_to_one : {net a b : Net} → TidiesTo net a → TidiesTo net b → a ≡ b
tidies_to_one (tidy s) (tidy t) = refl
tidies_to_one (tidy s) (then step next more) = let e : ◌≡◌ {A = Option Step} None (Some step) = sym s ∙ next in cc
tidies_to_one (then step next more) (tidy t) = let e : ◌≡◌ {A = Option Step} None (Some step) = sym t ∙ next in cc
tidies_to_one {net} {a} {b} (then step next more) (then other next' more') =
    let same : ◌≡◌ {A = Option Step} (Some step) (Some other) = sym next ∙ next' in
    let is : step ≡ other = cc in
    tidies_to_one more (subst (λ (s : Step). TidiesTo (stepped net s) b) (sym is) more')

-- the order ends, since each step lowers the work
tidies_within : (n : ℕ) (net : Net) → IsWellFormed net → work net < n → (after : Net) × TidiesTo net after
tidies_within zero net well lt = absurd (omega (arith, lt))
tidies_within (suc n) net well lt =
    at (λ step well' falls. tidies_within n (stepped net step) well' (omega (arith, falls, lt))) (next_step net) refl
  where
    at : ((step : Step) → IsWellFormed (stepped net step) → work (stepped net step) < work net → (after : Net) × TidiesTo (stepped net step) after) → (o : Option Step) → next_step net ≡ o → (after : Net) × TidiesTo net after
    at more None is = (net, tidy is)
    at more (Some step) is =
        let a : IsTidying step × Applies net step = next_applies net step is in
        let rest : (after : Net) × TidiesTo (stepped net step) after = more step (step_formed net step well a.1) (tidying_ends net step well is) in
        (rest.0, then step is rest.1)

pub tidying_reaches : (net : Net) → IsWellFormed net → (after : Net) × TidiesTo net after
tidying_reaches net well = tidies_within (work net + 1) net well (omega arith)

pub fix_applies : (net : Net) (fault : Fault) → IsWellFormed net → HasFreePin net fault → Applies net (Fix fault.gate fault.position fault.value)
fix_applies net fault well (d, (reads, lt)) = (is_gate_there net fault.gate.0 (reader_gate net well fault.gate.0 fault.position d reads), slice_get_within (drivers_of net fault.gate.0) fault.position d reads)

pub fix_takes : (net : Net) (step : Step) (driver : ℕ) → IsWellFormed net → Applies net step → FixesPin net step driver → 1 < driver → free_pins (stepped net step) + 1 ≤ free_pins net
fix_takes net (Fix gate position value) driver well applies fixes lt = fix_frees net gate position value driver (gate_is net gate.0 applies.0) fixes lt
fix_takes net (Add gate y) driver well applies fixes lt = absurd fixes
fix_takes net (NewNot y) driver well applies fixes lt = absurd fixes
fix_takes net (Const gate position) driver well applies fixes lt = absurd fixes
fix_takes net (Same gate position) driver well applies fixes lt = absurd fixes
fix_takes net (NoPins gate) driver well applies fixes lt = absurd fixes
fix_takes net (OnePin gate) driver well applies fixes lt = absurd fixes
fix_takes net (Twice gate) driver well applies fixes lt = absurd fixes
fix_takes net (Twin gate other) driver well applies fixes lt = absurd fixes
fix_takes net (Dead gate) driver well applies fixes lt = absurd fixes

pub fix_falls : (net after : Net) (fault : Fault) → IsWellFormed net → ReadsNoConstants net → HasFreePin net fault → TidiesTo (fixed net fault) after → wire_count after < wire_count net
fix_falls net after fault well none (d, (reads, lt)) tidied =
    let g : IsGate net fault.gate.0 = reader_gate net well fault.gate.0 fault.position d reads in
    let applies : Applies net (Fix fault.gate fault.position fault.value) = fix_applies net fault well (d, (reads, lt)) in
    let one : free_pins (stepped net (Fix fault.gate fault.position fault.value)) + 1 ≤ free_pins net = fix_frees net fault.gate fault.position fault.value d g reads lt in
    let rest : IsTidiedNet (fixed net fault) after = tidied_keeps (step_formed net (Fix fault.gate fault.position fault.value) well applies) tidied in
    let before : free_pins net ≡ wire_count net = all_free net none in
    let last : free_pins after ≡ wire_count after = all_free after (tidy_reads_none after rest.formed rest.is_tidy) in
    omega (arith, one, rest.free, before, last)
