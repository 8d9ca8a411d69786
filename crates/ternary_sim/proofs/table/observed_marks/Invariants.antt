use Rattle.std.proofs.Common.{length, ℕ, ◌<◌, ◌≡◌}
use Rattle.std.specs.Prelude.{◌↔◌}
use Rattle.gate_graph.specs.Circuit.{net_of}
use Rattle.gate_graph.specs.Search.{IsSeen}
use Rattle.gate_net.specs.Net.{IsObserved}
use Rattle.ternary_sim.proofs.table.observed_marks.Given as goal

abbrev pub invariant-loop-number : goal.invariant-loop-number
invariant-loop-number l = record {
  size : length l.watched.items ≡ l.number;
  each : (x : ℕ) → x < l.number → IsSeen l.watched.items x ↔ IsObserved (net_of l.graph) x;
}
