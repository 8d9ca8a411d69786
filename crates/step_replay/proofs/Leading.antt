-- Tidying as accepted records, and what a rebuilt net is.
use Rattle.std.proofs.Common.{◌≡◌, ◌≤◌, ℕ, List, [], ◌∷◌, ◌++◌, refl, ap, arith}
use Rattle.std.specs.Prelude.{take}
use Rattle.std.specs.List.{AllByRecursion}
use Rattle.rm_model.specs.declared.parts.Model.{Model}
use Rattle.gate_net.specs.Net.{Net, IsWellFormed, wire_count}
use Rattle.rm_base.proofs.Public.{take_zero}
use Rattle.cover_decompose.specs.Count.{decomposed}
use Rattle.cover_decompose.specs.Decomposition.{net_of_model}
use Rattle.wire_edit.specs.declared.steps.Step.{Step}
use Rattle.wire_edit.specs.declared.steps.Step.TheVariants as step
use Rattle.wire_edit.specs.Laws.{IsTidying, NextApplies}
use Rattle.wire_edit.specs.Steps.{Applies, stepped}
use Rattle.wire_edit.specs.Tidying.{IsTidiedNet, TidiesTo, TidyingKeeps, then, tidy}
use Rattle.journal_text.specs.declared.record.Record.{Record}
use Rattle.journal_text.specs.declared.record.Record.TheVariants as kept
use Rattle.journal_text.specs.Accepted.{IsAcceptedStep}
use Rattle.journal_text.specs.Joining.{RunsJoin}
use Rattle.journal_text.specs.Runs.{AcceptedRunsKeep, AcceptedTo, steps_of}
use Rattle.step_replay.specs.Rebuilding.{AreAcceptedSteps, IsBest, IsRebuilt, after, wires_after}
use Rattle.step_replay.proofs.Makeable.{IsPartOf, part_of}

-- a local rule needs no tree
accepted_local : (net : Net) (s : Step) → IsTidying s → Applies net s → IsAcceptedStep net s []
accepted_local net (step.Add gate node) t a = absurd t
accepted_local net (step.Fix gate position value) t a = absurd t
accepted_local net (step.NewNot node) t a = absurd t
accepted_local net (step.Const gate position) t a = record { applies = a; grows = tt; justified = refl }
accepted_local net (step.Same gate position) t a = record { applies = a; grows = tt; justified = refl }
accepted_local net (step.NoPins gate) t a = record { applies = a; grows = tt; justified = refl }
accepted_local net (step.OnePin gate) t a = record { applies = a; grows = tt; justified = refl }
accepted_local net (step.Twice gate) t a = record { applies = a; grows = tt; justified = refl }
accepted_local net (step.Twin gate other) t a = record { applies = a; grows = tt; justified = refl }
accepted_local net (step.Dead gate) t a = record { applies = a; grows = tt; justified = refl }

-- records of local rules lead from the one net to the other
record LeadsLocally (net last : Net) : Type 0 where
  pub records : List Record
  pub local : AllByRecursion IsTidying (steps_of records)
  pub led : AcceptedTo net records last

leads_locally : NextApplies → (net last : Net) → TidiesTo net last → LeadsLocally net last
leads_locally next net last (tidy is) = record { records = []; local = tt; led = refl }
leads_locally next net last (then s e more) =
    let rest : LeadsLocally (stepped net s) last = leads_locally next (stepped net s) last more in
    let may : IsTidying s × Applies net s = next net s e in
    record {
      records = kept.Step s [] ∷ rest.records;
      local = (may.0, rest.local);
      led = (accepted_local net s may.0 may.1, rest.led);
    }

pub rebuilt : RunsJoin → AcceptedRunsKeep → NextApplies → TidyingKeeps → (m : Model) (steps : List Step) (taken : ℕ) (last : Net) → IsWellFormed (net_of_model m) → wire_count (net_of_model m) ≡ decomposed m
    → AreAcceptedSteps (net_of_model m) steps → IsBest (net_of_model m) steps taken → TidiesTo (after (net_of_model m) (take taken steps)) last → IsRebuilt m steps taken last
rebuilt join keep next tidied m steps taken last well wires run best order =
    let net : Net = net_of_model m in
    let mid : Net = after net (take taken steps) in
    let first : IsPartOf net steps taken = part_of net steps taken run in
    let local : LeadsLocally mid last = leads_locally next mid last order in
    let led : AcceptedTo net (first.records ++ local.records) last = join.accepted net mid last first.records local.records first.led local.led in
    let is : IsTidiedNet mid last = tidied mid last ((keep net mid first.records well first.led).form) order in
    let none : wires_after net steps 0 ≡ wire_count net = ap (λ (ss : List Step). wire_count (after net ss)) (take_zero steps) in
    let fewest : wires_after net steps taken ≤ wires_after net steps 0 = best.fewest 0 (omega arith) in
    record {
      best = best;
      order = order;
      records = first.records;
      more = local.records;
      are = first.are;
      local = local.local;
      led = led;
      tidy = is.is_tidy;
      keeps = keep net last (first.records ++ local.records) well led;
      fewer = omega (arith, is.wires, fewest, none, wires);
    }
