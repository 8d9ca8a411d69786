use Rattle.std.proofs.Common.{◌-◌, length}
use Rattle.gate_graph.specs.Inner.Circuit.{kinds_live}
use Rattle.gate_graph.proofs.pins.least_free.Given as goal

abbrev pub invariant-loop-at : goal.invariant-loop-at
invariant-loop-at l = kinds_live l.kinds l.at

abbrev pub decreases-loop-at : goal.decreases-loop-at
decreases-loop-at l = length l.kinds - l.at
