-- Nets that grow at their end, and the graphs in which they are made.
use Rattle.std.specs.Prelude.{List, None, Option, Some, [], length, map, sum_by, ℕ, ◌++◌, ◌<◌, ◌∷◌, ◌≡◌, ◌≢◌, ◌≤◌}
use Rattle.gate_graph.specs.Circuit.{Circuit, live_nodes, net_of, pins_taken}
use Rattle.gate_net.specs.declared.Kind.TheVariants.{And}
use Rattle.gate_net.specs.Net.{Net, Node, Reads, count_in, drivers_in, node_at, source_count, source_in, wire_count}
use Rattle.rm_base.specs.Numbers.{number_bound}

-- each number below the greatest is that of a live node
abbrev pub HasNoGaps : Net → Type 0
HasNoGaps net = (x : ℕ) → x < length net.nodes → node_at net x ≢ None

-- the net with more nodes, on the next numbers
abbrev pub with_nodes : Net → List (Option Node) → Net
with_nodes net more = record net { nodes = net.nodes ++ more }

-- these nodes, as live ones
abbrev pub live : List Node → List (Option Node)
live ns = map (λ (n : Node). Some n) ns

-- how many pins the nodes have
abbrev pub wires_in : List (Option Node) → ℕ
wires_in os = sum_by (λ (o : Option Node). length (drivers_in o)) os

-- how many sources they are
abbrev pub sources_in : List (Option Node) → ℕ
sources_in os = sum_by (λ (o : Option Node). count_in o source_in) os

-- a graph in the making: its nodes have all numbers, and its pins are those of its gates
pub record IsWhole (g : Circuit) : Type 0 where
  pub no_gaps : HasNoGaps (net_of g)
  pub pins : pins_taken g ≡ wire_count (net_of g)
  pub numbers : live_nodes g ≡ length (net_of g).nodes

-- few enough wires that one pin more can be taken, and few enough nodes
pub record Fits (net : Net) : Type 0 where
  pub pins : wire_count net < number_bound
  pub nodes : length net.nodes ≤ number_bound

-- its nodes have all numbers, and each reads lower ones
pub record IsOrdered (net : Net) : Type 0 where
  pub no_gaps : HasNoGaps net
  pub order : (y p x : ℕ) → Reads net y p x → x < y

-- no larger than decompositions are
pub record IsSmall (net : Net) : Type 0 where
  pub sources : source_count net ≤ 1024
  pub observed : length net.observed ≤ 4096
  pub wires : wire_count net ≤ 65536
  pub nodes : length net.nodes ≤ 66562

abbrev pub and_gate : ℕ → ℕ → Node
and_gate x y = record { kind = And; drivers = x ∷ y ∷ [] }
