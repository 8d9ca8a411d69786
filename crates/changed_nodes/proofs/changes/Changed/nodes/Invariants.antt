use Rattle.std.proofs.Common.{◌≡◌, ◌<◌, ℕ, Some}
use Rattle.std.specs.Prelude.{slice_get}
use Rattle.gate_net.specs.Net.{Reads}
use Rattle.gate_graph.specs.Circuit.{net_of}
use Rattle.changed_nodes.specs.Changing.{IsUnlisted}
use Rattle.changed_nodes.proofs.changes.Changed.nodes.Given as goal
use Rattle.rm_base.specs.Numbers.{numbers_of}

abbrev pub invariant-loop-place : goal.invariant-loop-place
invariant-loop-place l = record {
  listed : (y : ℕ) → IsUnlisted (numbers_of l.nodes.items) y → IsUnlisted (numbers_of l.self.gates.items) y × ((j driver : ℕ) → j < l.place → slice_get (numbers_of l.self.new_drivers.items) j ≡ Some driver → (position : ℕ) → Reads (net_of l.graph) y position driver → ⊥);
}
