-- The extract of a gated net: its sources and main gates alone, numbered anew without gaps.
use Rattle.std.specs.Prelude.{List, None, Option, Some, [], map, slice_get, suc, take, zero, ℕ, ◌∷◌}
use Rattle.gate_net.specs.Faults.{faults_from}
use Rattle.gate_net.specs.Net.{Net, Node, drivers_of}
use Rattle.joined_nets.specs.Growing.{live}
use Rattle.rm_base.specs.declared.numbers.Fault.{Fault}
use Rattle.wire_edit.specs.Steps.{or_zero}

-- the number of a node where dead numbers are left out
abbrev pub new_number : List (Option Node) → ℕ → ℕ
new_number os zero = 0
new_number [] (suc x) = 0
new_number (None ∷ os) (suc x) = new_number os x
new_number (Some n ∷ os) (suc x) = suc (new_number os x)

-- the live nodes in order, with their drivers numbered anew
abbrev pub numbered : (ℕ → ℕ) → List (Option Node) → List Node
numbered f [] = []
numbered f (None ∷ os) = numbered f os
numbered f (Some n ∷ os) = record n { drivers = map f n.drivers } ∷ numbered f os

-- the constants, the sources and the main gates
abbrev pub main_nodes : ℕ → Net → List (Option Node)
main_nodes bound net = take bound net.nodes

-- the drivers of pin 0 of the gating Ands
abbrev pub gated_nodes : Net → List ℕ
gated_nodes net = map (λ (x : ℕ). or_zero (slice_get (drivers_of net x) 0)) net.observed

abbrev pub extract : ℕ → Net → Net
extract bound net = record {
  nodes = live (numbered (new_number (main_nodes bound net)) (main_nodes bound net));
  observed = map (new_number (main_nodes bound net)) (gated_nodes net);
}

-- the faults of the main gates, by gate, position and value
abbrev pub main_faults : ℕ → Net → List Fault
main_faults bound net = faults_from 0 (main_nodes bound net)
