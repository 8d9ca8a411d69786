use Rattle.std.proofs.Common.{length, ◌≡◌}
use Rattle.gate_graph.specs.Circuit.{net_of}
use Rattle.implications.proofs.settling.settle.Given as goal
use Rattle.implications.specs.Inner.Tallies.{AreTallied}
use Rattle.implications.specs.Inner.Working.{Settling, work}
use Rattle.refutation.specs.FactSets.{held_by}

abbrev pub invariant-loop-clash : goal.invariant-loop-clash
invariant-loop-clash l = record {
  state : Settling (net_of l.question.graph.now) l.question.fault l.initial.facts l.initial.log.lines.items l.initial.log.trail.items l.initial.worklist l.facts l.log.lines.items l.log.trail.items l.worklist l.node.0;
  tallied : AreTallied (net_of l.question.graph.now) (held_by l.facts) l.question.fault.position l.tallies;
  room : length l.tallies.counted ≡ length l.initial.tallies.counted;
}

abbrev pub decreases-loop-clash : goal.decreases-loop-clash
decreases-loop-clash l = work l.facts l.worklist
