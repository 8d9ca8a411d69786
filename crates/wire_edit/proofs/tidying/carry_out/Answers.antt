use Rattle.std.proofs.Common.{arith, subst}
use Rattle.gate_graph.specs.Circuit.{net_of}
use Rattle.gate_graph.specs.Changes.{Edits}
use Rattle.gate_graph.specs.declared.editing.Edit.{Edit}
use Rattle.wire_edit.specs.Steps.{change_of}
use Rattle.wire_edit.proofs.Trying.{touched_carried}
use Rattle.wire_edit.proofs.tidying.carry_out.Goals as goal

pub returns-clause-touched : goal.returns-clause-touched
returns-clause-touched c =
    touched_carried c.args.graph.now c.edit.new.self (change_of (net_of c.args.graph.now) c.args.step) c.edit_for-edit.result c.mark_before.new.worklist c.mark_after.new.worklist c.well_formed-2.ensures.net c.well_formed-3.ensures.net c.edit_for-edit.ensures
    (subst (λ (e : Edit). Edits c.args.graph.now e c.edit.new.self) c.edit_for-edit.ensures c.edit.ensures.edits) c.mark_before.ensures.touched c.mark_after.ensures.kept
    (λ driver y e le t lt. c.mark_after.ensures.nots driver y e (omega (arith, le, c.number_for-number.ensures driver e)) t lt)
