use Rattle.std.proofs.Common.{◌≡◌, ◌<◌, ◌≤◌, ◌+◌, ◌++◌, ℕ, map, drop, length, false}
use Rattle.gate_graph.specs.Circuit.{net_of}
use Rattle.gate_net.specs.Net.{drivers_of}
use Rattle.wire_edit.specs.Tests.{is_repeated}
use Rattle.wire_edit.specs.Inner.Known.{MarksFirst}
use Rattle.wire_edit.proofs.seen.mark_drivers.Given as goal

abbrev pub invariant-loop-driver : goal.invariant-loop-driver
invariant-loop-driver l = record {
  all : drop l.fn.from (drivers_of (net_of l.graph) l.fn.gate.0) ≡ map (λ n. n.0) l.yielded ++ l.driver-iterator;
  count : l.position ≡ l.fn.from + length l.yielded;
  none : (k : ℕ) → k < l.position → is_repeated (drivers_of (net_of l.graph) l.fn.gate.0) k ≡ false;
  marks : MarksFirst (drivers_of (net_of l.graph) l.fn.gate.0) l.position l.marks;
  room : length (net_of l.graph).nodes ≤ length l.marks;
}
