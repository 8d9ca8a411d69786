use Rattle.std.proofs.Common.{ap, ◌∙◌, sym}
use Rattle.wire_edit.specs.Tried.{start_of}
use Rattle.wire_edit.proofs.trial.Trial.rollback.Goals as goal

pub returns-clause-graph : goal.returns-clause-graph
returns-clause-graph c = λ v e. c.same_wiring.ensures c.undo.new.self v (c.undo.ensures.wiring ∙ ap start_of c.self.view_is ∙ sym e)
