use Rattle.std.proofs.Common.{map, ◌++◌, ◌≡◌, ℕ}
use Rattle.std.specs.Prelude.{Some, slice_get}
use Rattle.gate_graph.specs.Circuit.{net_of}
use Rattle.gate_net.specs.Net.{Reads, drivers_of}
use Rattle.wire_edit.specs.Steps.{or_zero}
use Rattle.care_opt.specs.Extract.{gated_nodes}
use Rattle.care_opt.specs.Inner.Looking.{looked}
use Rattle.care_opt.proofs.extracting.gated_numbers.Given as goal

abbrev pub invariant-loop-gate : goal.invariant-loop-gate
invariant-loop-gate l = record {
  gates : (k y : ℕ) → slice_get l.gate-iterator k ≡ Some y → (d : ℕ) × Reads (net_of l.graph) y 0 d;
  made : map (λ n. n.0) l.nodes.items ++ map (looked l.numbers) (map (λ (y : ℕ). or_zero (slice_get (drivers_of (net_of l.graph) y) 0)) l.gate-iterator) ≡ map (looked l.numbers) (gated_nodes (net_of l.graph));
}
