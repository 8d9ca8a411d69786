use Rattle.std.proofs.Common.{map, ◌++◌, ◌≡◌}
use Rattle.gate_graph.specs.Circuit.{net_of}
use Rattle.gate_net.specs.Net.{drivers_of}
use Rattle.care_opt.specs.Inner.Looking.{looked}
use Rattle.care_opt.proofs.extracting.new_drivers.Given as goal

abbrev pub invariant-loop-driver : goal.invariant-loop-driver
invariant-loop-driver l = map (λ n. n.0) l.drivers.items ++ map (looked l.numbers) l.driver-iterator ≡ map (looked l.numbers) (drivers_of (net_of l.graph) l.fn.node.0)
