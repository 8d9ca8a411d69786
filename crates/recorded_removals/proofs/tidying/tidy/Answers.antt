use Rattle.std.proofs.Common.{◌≡◌, ◌+◌, ◌≤◌, ◌<◌, sym, ap, subst, arith}
use Rattle.std.specs.Prelude.{Some, None, Ok, Err}
use Rattle.gate_net.specs.Net.{Net, IsWellFormed}
use Rattle.gate_graph.specs.Circuit.{Circuit, net_of}
use Rattle.wire_edit.specs.Work.{work}
use Rattle.wire_edit.specs.Tried.{Tried, Tidies}
use Rattle.wire_edit.specs.Tidying.{TidiesTo, tidy, then}
use Rattle.changed_nodes.specs.Changing.{HasNoted, NotesOn}
use Rattle.recorded_removals.specs.Going.{AddsLocal, Goes}
use Rattle.wire_edit.proofs.Public.{never_full, next_applies}
use Rattle.wire_edit.specs.Laws.{IsTidying}
use Rattle.wire_edit.specs.Steps.{Applies}
use Rattle.changed_nodes.proofs.Public.{tidying_no_not}
use Rattle.recorded_removals.proofs.GoingOn.{goes_none, goes_then, local_none, local_then, tidied_step}
use Rattle.recorded_removals.proofs.tidying.tidy.Goals as goal

pub loop-step-init : goal.loop-step-init
loop-step-init c = record { goes = goes_none c.args.trial.now c.args.log.now.items; local = local_none c.args.log.now.items; order = λ last more. more; noted = λ before n. n; room = c.requires.room }

pub loop-step-preserved : goal.loop-step-preserved
loop-step-preserved c =
    let made : Tidies c.loop-step.trial c.tidy_one.new.self (Ok (Some c.in-Ok-Some.step)) = rw c.in-Ok-Some.field-0-is at c.in-Ok-Some.ensures.tidies in
    let formed : IsWellFormed (net_of c.loop-step.trial.graph) = subst (λ (v : Circuit). IsWellFormed (net_of v)) c.graph.ensures c.well_formed-in-loop-step.ensures.net in
    let some : 0 < c.loop-step.trial.room.steps = c.tidy_one.ensures.room c.in-Ok-Some.step (rw c.in-Ok-Some.field-0-is at c.in-Ok-Some.is) in
    let both : Goes c.loop-step.trial c.tidy_one.new.self c.loop-step.log.items c.push_local.new.log.items × AddsLocal c.loop-step.log.items c.push_local.new.log.items =
    tidied_step c.steps_keep.ensures.sources c.room_suffices.ensures.tidying c.tidying_ends.ensures.tidying c.loop-step.trial c.tidy_one.new.self c.in-Ok-Some.step c.loop-step.log.items c.push_local.new.log.items formed made c.in-Ok-Some.ensures.start c.in-Ok-Some.ensures.first c.in-Ok-Some.ensures.epoch c.in_ok-push_local-in-Ok-Some.ensures some c.tidy_one.ensures.held in
    let next : IsTidying c.in-Ok-Some.step × Applies (net_of c.loop-step.trial.graph) c.in-Ok-Some.step = next_applies (net_of c.loop-step.trial.graph) c.in-Ok-Some.step made.0 in
    let noted : NotesOn (net_of c.loop-step.trial.graph) (net_of c.tidy_one.new.self.graph) c.loop-step.changed c.note.new.self =
    subst (λ (v : Circuit). HasNoted c.in-Ok-Some.step v c.loop-step.changed c.note.new.self) c.graph-in-Ok-Some.ensures c.in_ok-note-in-Ok-Some.ensures c.loop-step.trial.graph formed next.1 (tidying_no_not (net_of c.loop-step.trial.graph) c.in-Ok-Some.step next.0) made.1.1.0 in
    let zero : work (net_of c.tidy_one.new.self.graph) + 0 ≤ c.tidy_one.new.self.room.steps = both.0.room 0 (omega (arith, c.loop-step.invariant.room)) in
    record {
      goes = goes_then c.args.trial.now c.loop-step.trial c.tidy_one.new.self c.args.log.now.items c.loop-step.log.items c.push_local.new.log.items c.loop-step.invariant.goes both.0;
      local = local_then c.args.log.now.items c.loop-step.log.items c.push_local.new.log.items c.loop-step.invariant.local both.1;
      order = λ last more. c.loop-step.invariant.order last (then c.in-Ok-Some.step made.0 (subst (λ (n : Net). TidiesTo n last) made.1.0 more));
      noted = λ before n. noted before (c.loop-step.invariant.noted before n);
      room = omega (arith, zero);
    }

pub returns-in-Ok-None-clause-order : goal.returns-in-Ok-None-clause-order
returns-in-Ok-None-clause-order c =
    let none : Tidies c.loop-step.trial c.tidy_one.new.self (Ok None) = rw c.in-Ok-None.field-0-is at c.in-Ok-None.ensures.tidies in
    let same : net_of c.tidy_one.new.self.graph ≡ net_of c.loop-step.trial.graph = ap (λ (t : Tried). net_of t.graph) none.1 in
    subst (λ (n : Net). TidiesTo (net_of c.args.trial.now.graph) n) (sym same) (c.loop-step.invariant.order (net_of c.loop-step.trial.graph) (tidy none.0))

pub unreachable-requires : goal.unreachable-requires
unreachable-requires c =
    let formed : IsWellFormed (net_of c.loop-step.trial.graph) = subst (λ (v : Circuit). IsWellFormed (net_of v)) c.graph.ensures c.well_formed-in-loop-step.ensures.net in
    let full : Tidies c.loop-step.trial c.tidy_one.new.self (Err c.in-Err._refusal) = subst (Tidies c.loop-step.trial c.tidy_one.new.self) c.in-Err.is c.tidy_one.ensures.tidies in
    never_full c.room_suffices.ensures.tidying c.loop-step.trial c.tidy_one.new.self c.in-Err._refusal formed c.loop-step.invariant.room full
