use Rattle.std.proofs.Common.{◌≡◌, take}
use Rattle.gate_graph.specs.Circuit.{net_of}
use Rattle.gate_net.specs.Net.{drivers_of}
use Rattle.wire_edit.specs.Tests.{is_among}
use Rattle.wire_edit.proofs.rules.reads_before.Given as goal

abbrev pub invariant-loop-driver : goal.invariant-loop-driver
invariant-loop-driver l = is_among l.node.0 (take l.before (drivers_of (net_of l.graph) l.fn.gate.0)) ≡ is_among l.node.0 (take l.left l.driver-iterator)
