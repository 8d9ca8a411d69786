use Rattle.std.proofs.Common.{◌-◌, ◌<◌, ◌≢◌, ◌≤◌, None, length, ℕ}
use Rattle.gate_graph.specs.Circuit.{net_of}
use Rattle.gate_net.specs.Net.{kind_of}
use Rattle.fault_sim.proofs.changed.first_free.Given as goal

abbrev pub invariant-loop-number : goal.invariant-loop-number
invariant-loop-number l = record {
  least : (m : ℕ) → m < l.number → kind_of (net_of l.graph) m ≢ None;
  within : l.number ≤ length (net_of l.graph).nodes;
}

abbrev pub decreases-loop-number : goal.decreases-loop-number
decreases-loop-number l = length (net_of l.graph).nodes - l.number
