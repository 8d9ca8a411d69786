use Rattle.std.proofs.Common.{◌≡◌}
use Rattle.gate_graph.specs.Circuit.{net_of}
use Rattle.gate_net.specs.Net.{drivers_of}
use Rattle.wire_edit.specs.Tests.{is_among}
use Rattle.wire_edit.proofs.looks.drives.Given as goal

abbrev pub invariant-loop-driver : goal.invariant-loop-driver
invariant-loop-driver l = is_among l.node.0 (drivers_of (net_of l.graph) l.fn.gate.0) ≡ is_among l.node.0 l.driver-iterator
