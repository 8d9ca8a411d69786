use Rattle.std.proofs.Common.{length, map, ◌≡◌}
use Rattle.gate_graph.specs.Circuit.{net_of}
use Rattle.gate_net.specs.Net.{Net}
use Rattle.implications.proofs.Refitting.{Refits}
use Rattle.implications.proofs.following.refit_nodes.Given as goal
use Rattle.implications.specs.Bases.{IsRest}
use Rattle.refutation.specs.FactSets.{held_by}
use Rattle.rm_base.specs.declared.numbers.NodeId.{NodeId}

abbrev pub invariant-loop-node : goal.invariant-loop-node
invariant-loop-node l = record {
  refits : (before : Net) → IsRest before (held_by l.initial.facts) → Refits before (net_of l.graph) (map (λ (n : NodeId). n.0) l.nodes) l.node-index l.facts;
  size : length l.facts ≡ length l.initial.facts;
}
