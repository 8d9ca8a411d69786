use Rattle.gate_graph.specs.Circuit.{net_of}
use Rattle.recursive_learning.specs.Serving.{IsServing}
use Rattle.care_opt.specs.Inner.Kept.{AreKept}
use Rattle.care_opt.proofs.refuting.refuted_at.Given as goal

abbrev pub invariant-loop-position : goal.invariant-loop-position
invariant-loop-position l = record {
  serves : IsServing (net_of l.graph) l.refuter;
  kept : AreKept l.vectors (net_of l.graph);
}
