use Rattle.std.proofs.Common.{length, map, ◌++◌, ◌≡◌}
use Rattle.gate_graph.specs.Circuit.{net_of}
use Rattle.gate_net.specs.Net.{drivers_of}
use Rattle.rm_base.specs.declared.numbers.NodeId.{NodeId}
use Rattle.ternary_sim.proofs.region.mark_drivers.Given as goal
use Rattle.ternary_sim.specs.Regions.{MarksMore}
use Rattle.rm_base.specs.Members.{AmongFirst}

abbrev pub invariant-loop-driver : goal.invariant-loop-driver
invariant-loop-driver l = record {
  all : l.initial.driver-iterator ≡ map (λ (d : NodeId). d.0) l.yielded ++ l.driver-iterator;
  marks : MarksMore (AmongFirst (drivers_of (net_of l.graph) l.fn.node.0) (length l.yielded)) l.initial.marks l.marks l.initial.waiting l.waiting;
  size : length l.marks ≡ length l.initial.marks;
  room : length l.waiting ≡ length l.initial.waiting;
}
