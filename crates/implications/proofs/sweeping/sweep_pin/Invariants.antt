use Rattle.std.proofs.Common.{length, ◌≡◌}
use Rattle.gate_graph.specs.Circuit.{net_of}
use Rattle.implications.proofs.sweeping.sweep_pin.Given as goal
use Rattle.implications.specs.Inner.Tallies.{AreTallied}
use Rattle.implications.specs.Inner.Working.{Settling, work}
use Rattle.refutation.specs.FactSets.{held_by}

abbrev pub invariant-loop-found : goal.invariant-loop-found
invariant-loop-found l = record {
  state : Settling (net_of l.question.graph.now) l.question.fault l.initial.facts l.initial.log.lines.items l.initial.log.trail.items l.initial.worklist l.facts l.log.lines.items l.log.trail.items l.worklist l.node.0;
  tallied : AreTallied (net_of l.question.graph.now) (held_by l.facts) l.question.fault.position l.tallies;
  room : length l.tallies.counted ≡ length l.initial.tallies.counted;
}

abbrev pub decreases-loop-found : goal.decreases-loop-found
decreases-loop-found l = work l.facts l.worklist
