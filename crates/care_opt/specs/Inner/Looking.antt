-- New numbers that are looked up.
use Rattle.std.specs.Prelude.{List, [], drop, slice_index_or, ℕ, ◌∷◌}
use Rattle.gate_net.specs.Net.{Net, node_at}
use Rattle.joined_nets.specs.Growing.{live, with_nodes}
use Rattle.care_opt.specs.Extract.{main_nodes, new_number, numbered}

-- the number that stands at this one
abbrev pub looked : List ℕ → ℕ → ℕ
looked numbers x = slice_index_or numbers x 0

-- the net with this node of another, its drivers as they are looked up
abbrev pub with_node : Net → List ℕ → Net → ℕ → Net
with_node small numbers net x = with_nodes small (live (numbered (looked numbers) (node_at net x ∷ [])))

-- the net with the main nodes of another from a number on, numbered anew
abbrev pub with_main : Net → ℕ → ℕ → Net → Net
with_main small from bound net = with_nodes small (live (numbered (new_number (main_nodes bound net)) (drop from (main_nodes bound net))))
