use Rattle.std.proofs.Common.{length, ◌≤◌}
use Rattle.gate_graph.specs.Circuit.{net_of}
use Rattle.refutation.specs.FactSets.{held_by}
use Rattle.candidate_wires.specs.Inner.Parts.{AreKnown}
use Rattle.candidate_wires.proofs.InOrder.{AreSeen}
use Rattle.candidate_wires.proofs.known.known_in_order.Given as goal

abbrev pub invariant-loop-number : goal.invariant-loop-number
invariant-loop-number l = record {
  known : AreKnown (net_of l.graph) (held_by l.facts) l.next l.nodes.items;
  bound : l.next ≤ length (net_of l.graph).nodes;
  seen : AreSeen (net_of l.graph) l.numbers l.number-index l.next;
}
