-- A graph that is made of listed nodes.
use Rattle.std.specs.Prelude.{◌≡◌, ◌+◌, ℕ, suc, List, [], ◌∷◌, ◌++◌, map, length, Option, Some, sum_by}
use Rattle.gate_net.specs.Net.{Node, Net, drivers_in}
use Rattle.gate_graph.specs.Circuit.{Circuit, net_of, fanouts_of, pins_taken, live_nodes}
use Rattle.gate_graph.specs.Spots.{places_from}

-- the readers of a node among nodes that are numbered from y on: by gate, and by position within one
abbrev pub readers_from : ℕ → List (Option Node) → ℕ → List (ℕ × ℕ)
readers_from y [] n = []
readers_from y (o ∷ nodes) n = places_from y 0 (drivers_in o) n ++ readers_from (suc y) nodes n

-- the readers of a node, by gate number and position
abbrev pub readers_in : Net → ℕ → List (ℕ × ℕ)
readers_in net n = readers_from 0 net.nodes n

-- these are the graph's nodes and observed nodes, with the readers in the order in which they were made
pub record IsBuilt (g : Circuit) (made : List Node) (observed : List ℕ) : Type 0 where
  pub net : net_of g ≡ record { nodes = map (λ n. Some n) made; observed = observed }
  pub readers : (n : ℕ) → fanouts_of g n ≡ readers_from 0 (map (λ n. Some n) made) n
  pub pins : pins_taken g ≡ sum_by (λ (n : Node). length n.drivers) made + length observed
  pub nodes : live_nodes g ≡ length made
  pub epoch : g.epoch ≡ 0
