use Rattle.std.proofs.Common.{refl, subst}
use Rattle.gate_graph.specs.Circuit.{Circuit, net_of}
use Rattle.recursive_learning.specs.Serving.{IsServing}
use Rattle.rar_loop.specs.Inner.Kept.{AreFor}
use Rattle.rar_loop.proofs.workspace.Workspace.over.Goals as goal

pub returns-clause-trial : goal.returns-clause-trial
returns-clause-trial c = refl

pub returns-clause-tools : goal.returns-clause-tools
returns-clause-tools c = record {
  vectors = subst (λ (v : Circuit). AreFor c.in_ok-vectors.vectors (net_of v)) c.graph.ensures c.in_ok-vectors.ensures.vectors;
  refuter = subst (λ (v : Circuit). IsServing (net_of v) c.in_ok-vectors.refuter) c.graph.ensures c.in_ok-vectors.ensures.refuter;
}
