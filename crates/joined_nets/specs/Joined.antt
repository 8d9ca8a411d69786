-- Two nets side by side over the same sources: the first keeps its numbers, and the gates of the second have the next ones.
use Rattle.std.specs.Prelude.{List, None, Option, Some, drop, if◌then◌else◌, length, map, nat_lt, ℕ, ◌++◌, ◌+◌, ◌-◌, ◌≡◌}
use Rattle.gate_net.specs.Net.{IsWellFormed, Net, Node, source_count}
use Rattle.rm_base.specs.Numbers.{first_source}

-- the number among both of node x of the second net: constants and sources are shared, gates come after the first net's nodes
abbrev pub moved : ℕ → ℕ → ℕ → ℕ
moved first count x = if nat_lt x first then x else count + (x - first)

abbrev pub node_moved : ℕ → ℕ → Option Node → Option Node
node_moved first count None = None
node_moved first count (Some n) = Some (record n { drivers = map (moved first count) n.drivers })

-- the least number of a gate
abbrev pub first_gate : Net → ℕ
first_gate net = first_source + source_count net

-- the nodes of both nets
abbrev pub both : Net → Net → List (Option Node)
both one two = one.nodes ++ map (node_moved (first_gate one) (length one.nodes)) (drop (first_gate one) two.nodes)

-- the observed nodes of the second net
abbrev pub observed_moved : Net → Net → List ℕ
observed_moved one two = map (moved (first_gate one) (length one.nodes)) two.observed

-- both have as many sources
pub record ShareSources (one two : Net) : Type 0 where
  pub first : IsWellFormed one
  pub second : IsWellFormed two
  pub sources : source_count one ≡ source_count two
