use Rattle.std.proofs.Common.{length, ◌≡◌}
use Rattle.gate_graph.specs.Circuit.{net_of}
use Rattle.implications.proofs.settling.work_off.Given as goal
use Rattle.implications.specs.Inner.Tallies.{AreTallied}
use Rattle.implications.specs.Inner.Working.{Running, work}
use Rattle.refutation.specs.FactSets.{held_by}

abbrev pub invariant-loop-node : goal.invariant-loop-node
invariant-loop-node l = record {
  state : Running (net_of l.question.graph.now) l.question.fault l.initial.facts l.initial.log.lines.items l.initial.log.trail.items l.initial.worklist l.facts l.log.lines.items l.log.trail.items l.worklist;
  tallied : AreTallied (net_of l.question.graph.now) (held_by l.facts) l.question.fault.position l.tallies;
  room : length l.tallies.counted ≡ length l.initial.tallies.counted;
}

abbrev pub decreases-loop-node : goal.decreases-loop-node
decreases-loop-node l = work l.facts l.worklist
