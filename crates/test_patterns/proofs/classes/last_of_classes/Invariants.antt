use Rattle.std.proofs.Common.{take}
use Rattle.gate_graph.specs.Circuit.{net_of}
use Rattle.test_patterns.specs.Classes.{AreLast}
use Rattle.test_patterns.proofs.classes.last_of_classes.Given as goal

abbrev pub invariant-loop-at : goal.invariant-loop-at
invariant-loop-at l = AreLast (net_of l.graph) (take l.at l.faults) l.lasts.items
