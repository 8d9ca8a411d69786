use Rattle.gate_graph.specs.Inner.Circuit.{kinds_dead}
use Rattle.gate_graph.proofs.pins.last_live.Given as goal

abbrev pub invariant-loop-bound : goal.invariant-loop-bound
invariant-loop-bound l = kinds_dead l.kinds l.bound

abbrev pub decreases-loop-bound : goal.decreases-loop-bound
decreases-loop-bound l = l.bound
