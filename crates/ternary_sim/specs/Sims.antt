-- What a contract sees of a simulator.
use Rattle.std.specs.Prelude.{List, length, ℕ, ◌≡◌}
use Rattle.gate_graph.specs.Order.{IsOrder}
use Rattle.gate_net.specs.Net.{Net, source_count}
use Rattle.rm_base.specs.declared.vectors.Value3.{Value3}
use Rattle.ternary_sim.specs.declared.marks.NodeMarks.{NodeMarks}

-- the values of the sources, the order of the nodes, and the marks by node number
pub record SimState : Type 0 where
  pub sources : List Value3
  pub order : List ℕ
  pub marks : List NodeMarks

-- the simulator has a value for each source, and its order is one of the net
pub record Fits (s : SimState) (net : Net) : Type 0 where
  pub sources : length s.sources ≡ source_count net
  pub order : IsOrder net s.order
