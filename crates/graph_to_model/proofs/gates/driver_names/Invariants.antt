use Rattle.std.proofs.Common.{◌≡◌, ◌++◌, map}
use Rattle.gate_graph.specs.Circuit.{net_of}
use Rattle.gate_net.specs.Net.{drivers_of}
use Rattle.graph_to_model.specs.Inner.Making.{named}
use Rattle.graph_to_model.proofs.gates.driver_names.Given as goal

abbrev pub invariant-loop-driver : goal.invariant-loop-driver
invariant-loop-driver l = record {
  all : drivers_of (net_of l.graph) l.fn.node.0 ≡ map (λ n. n.0) l.yielded ++ l.driver-iterator;
  made : l.drivers.items ++ map (named l.names) l.driver-iterator ≡ map (named l.names) (drivers_of (net_of l.graph) l.fn.node.0);
}
