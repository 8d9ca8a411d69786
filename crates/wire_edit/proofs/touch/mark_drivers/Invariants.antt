use Rattle.gate_graph.specs.Circuit.{net_of}
use Rattle.gate_net.specs.Net.{drivers_of}
use Rattle.wire_edit.proofs.Touching.{Driven}
use Rattle.wire_edit.proofs.touch.mark_drivers.Given as goal

abbrev pub invariant-loop-driver : goal.invariant-loop-driver
invariant-loop-driver l = Driven (drivers_of (net_of l.graph) l.fn.gate.0) l.fn.worklist l.worklist l.driver-iterator
