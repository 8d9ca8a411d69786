use Rattle.std.proofs.Common.{◌≡◌, ℕ, length, true}
use Rattle.gate_graph.specs.Circuit.{net_of}
use Rattle.gate_net.specs.Net.{IsLive}
use Rattle.pin_pool.specs.Ring.{has}
use Rattle.test_nets.proofs.building.nodes_of.Given as goal
use Rattle.rm_base.specs.Numbers.{numbers_of}

abbrev pub invariant-loop-number : goal.invariant-loop-number
invariant-loop-number l = record {
  live : (d : ℕ) → has d (numbers_of l.nodes.items) ≡ true → IsLive (net_of l.graph) d;
  count : length l.nodes.items ≡ l.number-index;
}
