-- The last gates of the comparisons of two nets.
use Rattle.std.specs.Prelude.{List, length, ℕ}
use Rattle.gate_net.specs.Net.{Net}
use Rattle.joined_nets.specs.Joined.{both, observed_moved}
use Rattle.equal_miter.specs.Miter.{differences}

-- for each observed place the gate that is 1 where the nets differ there
abbrev pub tops : Net → Net → List ℕ
tops one two = differences (length (both one two)) one.observed (observed_moved one two)
