-- The gated net: a net, a second one with one output over the same sources, and an And of each observed node of the first and
-- that output, so that nothing is seen where the output is 0.
use Rattle.std.specs.Prelude.{List, [], length, map, slice_index_or, suc, ℕ, ◌++◌, ◌<◌, ◌∷◌}
use Rattle.cover_decompose.specs.Decomposition.{net_of_model}
use Rattle.gate_net.specs.Net.{IsGate, Net, Node}
use Rattle.gate_net.specs.Values.{HasPin}
use Rattle.joined_nets.specs.Growing.{and_gate, live}
use Rattle.joined_nets.specs.Joined.{both, observed_moved}
use Rattle.rm_base.specs.declared.numbers.Fault.{Fault}
use Rattle.rm_model.specs.declared.parts.Model.{Model}

-- the node of the second net's output among both
abbrev pub care_node : Net → Net → ℕ
care_node one two = slice_index_or (observed_moved one two) 0 0

-- an And of each node and the output
abbrev pub gates_by : ℕ → List ℕ → List Node
gates_by care xs = map (λ (x : ℕ). and_gate x care) xs

-- as many numbers as there are nodes, from `next` on
abbrev pub numbers_from : ℕ → List ℕ → List ℕ
numbers_from next [] = []
numbers_from next (x ∷ xs) = next ∷ numbers_from (suc next) xs

-- both nets, and these Ands, which alone are observed
abbrev pub gated_by : Net → Net → List ℕ → Net
gated_by one two xs = record { nodes = both one two ++ live (gates_by (care_node one two) xs); observed = numbers_from (length (both one two)) xs }

abbrev pub gated_net : Net → Net → Net
gated_net one two = gated_by one two one.observed

-- the gated net of a model and a care model
abbrev pub models_gated : Model → Model → Net
models_gated m c = gated_net (net_of_model m) (net_of_model c)

-- the main gates have the numbers below this one: they are those of the first model
abbrev pub main_bound : Model → ℕ
main_bound m = length (net_of_model m).nodes

abbrev pub IsMainGate : ℕ → Net → ℕ → Type 0
IsMainGate bound net x = (x < bound) × IsGate net x

-- a fault of a pin of a main gate
abbrev pub IsMainFault : ℕ → Net → Fault → Type 0
IsMainFault bound net fault = (fault.gate.0 < bound) × HasPin net fault
