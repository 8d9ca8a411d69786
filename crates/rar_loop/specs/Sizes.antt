-- Graphs that take no more than before.
use Rattle.std.specs.Prelude.{◌≡◌, ◌≤◌, ◌+◌, ℕ, length, max}
use Rattle.gate_graph.specs.Circuit.{Circuit, net_of, pins_taken, live_nodes}
use Rattle.gate_graph.specs.Holds.{pins_held}

-- a trial has room for so many steps where pins and nodes together are at most 1,048,576
abbrev pub most_steps : ℕ
most_steps = 2097168

-- the same net, with as many pins and nodes
pub record IsSame (before graph : Circuit) : Type 0 where
  pub net : net_of graph ≡ net_of before
  pub pins : pins_taken graph ≡ pins_taken before
  pub nodes : live_nodes graph ≡ live_nodes before

-- pins and nodes together, and the node numbers, are no more than they were; undos hold as many pins
pub record IsWithin (before graph : Circuit) : Type 0 where
  pub size : pins_taken graph + live_nodes graph ≤ pins_taken before + live_nodes before
  pub held : pins_held graph ≡ pins_held before
  pub numbers : length (net_of graph).nodes ≤ max (length (net_of before).nodes) (pins_taken before + live_nodes before)
