use Rattle.std.proofs.Common.{map, ℕ, ◌*◌, ◌<◌}
use Rattle.gate_graph.specs.Circuit.{net_of}
use Rattle.gate_net.specs.Values.{Detects}
use Rattle.fault_sim.specs.BlockStates.{vector_of}
use Rattle.fault_sim.specs.Inner.BlockStates.{ArePlaced, words_of}
use Rattle.fault_sim.proofs.blocks.first_of.Given as goal

abbrev pub invariant-loop-number : goal.invariant-loop-number
invariant-loop-number l = record {
  placed : ArePlaced (map (λ n. n.0) l.order) l.places l.spread;
  none : (n : ℕ) → n < 64 * l.number → Detects (net_of l.question.graph.now) l.question.fault (vector_of (words_of l.blocks) n) → ⊥;
}
