use Rattle.std.proofs.Common.{ap, ◌∙◌}
use Rattle.gate_graph.specs.Circuit.{net_of, fanouts_of}
use Rattle.wire_edit.specs.Tried.{Tried}
use Rattle.wire_edit.proofs.trial.Trial.commit.Goals as goal

pub returns-clause-net : goal.returns-clause-net
returns-clause-net c = c.keep.ensures.net ∙ ap (λ (t : Tried). net_of t.graph) c.self.view_is

pub returns-clause-readers : goal.returns-clause-readers
returns-clause-readers c = λ n. c.keep.ensures.fanouts n ∙ ap (λ (t : Tried). fanouts_of t.graph n) c.self.view_is
