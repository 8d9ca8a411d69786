use Rattle.std.proofs.Common.{refl, subst}
use Rattle.gate_graph.specs.Circuit.{Circuit, net_of}
use Rattle.recursive_learning.specs.Serving.{IsServing}
use Rattle.merging.proofs.space.Space.over.Goals as goal

pub returns-clause-trial : goal.returns-clause-trial
returns-clause-trial c = refl

pub returns-clause-serves : goal.returns-clause-serves
returns-clause-serves c = subst (λ (v : Circuit). IsServing (net_of v) c.in_ok-refuter.refuter) c.graph.ensures c.in_ok-refuter.ensures
