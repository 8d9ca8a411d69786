use Rattle.std.proofs.Common.{ap, arith}
use Rattle.wire_edit.specs.declared.room.Room.{Room}
use Rattle.journal_check.proofs.TrialLaws.{room_nodes, room_pins}
use Rattle.journal_check.proofs.trying.begin_trial.Goals as goal

pub begin-requires-clause-pins : goal.begin-requires-clause-pins
begin-requires-clause-pins c =
    let all = room_pins c.args.graph c.steps_for-left.result c.requires c.well_formed-2.ensures.held c.steps_for-left.ensures.few in
    omega (arith, all, ap (λ (r : Room). r.pins) c.room_for.ensures)

pub begin-requires-clause-nodes : goal.begin-requires-clause-nodes
begin-requires-clause-nodes c =
    let all = room_nodes c.args.graph c.steps_for-left.result c.requires c.well_formed-2.ensures.live c.steps_for-left.ensures.few in
    omega (arith, all, ap (λ (r : Room). r.nodes) c.room_for.ensures)
