use Rattle.std.proofs.Common.{◌≡◌, ◌+◌, ◌-◌, ◌<◌, ◌≤◌, ℕ, Some, length}
use Rattle.gate_net.specs.declared.Kind.TheVariants.{Source}
use Rattle.gate_graph.specs.Wirings.{kind_at}
use Rattle.gate_graph.proofs.pins.first_sources.Given as goal

abbrev pub invariant-loop-at : goal.invariant-loop-at
invariant-loop-at l = record {
  low : 2 ≤ l.at;
  high : l.at ≤ 2 + length l.kinds;
  all : (k : ℕ) → 2 + k < l.at → kind_at l.kinds (2 + k) ≡ Some Source;
}

abbrev pub decreases-loop-at : goal.decreases-loop-at
decreases-loop-at l = length l.kinds - l.at
