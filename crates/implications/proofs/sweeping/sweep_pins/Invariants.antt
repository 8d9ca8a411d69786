use Rattle.std.proofs.Common.{length, map, ◌++◌, ◌≡◌}
use Rattle.gate_graph.specs.Circuit.{net_of}
use Rattle.implications.proofs.sweeping.sweep_pins.Given as goal
use Rattle.implications.specs.Inner.Tallies.{AreTallied}
use Rattle.implications.specs.Inner.Working.{Settling}
use Rattle.refutation.specs.FactSets.{held_by}
use Rattle.rm_base.specs.declared.numbers.NodeId.{NodeId}

abbrev pub invariant-loop-driver : goal.invariant-loop-driver
invariant-loop-driver l = record {
  all : l.initial.driver-iterator ≡ map (λ (d : NodeId). d.0) l.yielded ++ l.driver-iterator;
  count : l.position ≡ length l.yielded;
  state : Settling (net_of l.question.graph.now) l.question.fault l.initial.facts l.initial.log.lines.items l.initial.log.trail.items l.initial.worklist l.facts l.log.lines.items l.log.trail.items l.worklist l.node.0;
  tallied : AreTallied (net_of l.question.graph.now) (held_by l.facts) l.question.fault.position l.tallies;
  room : length l.tallies.counted ≡ length l.initial.tallies.counted;
}
