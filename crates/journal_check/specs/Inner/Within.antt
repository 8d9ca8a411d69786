-- Nets that are small enough to go on in trials.
use Rattle.std.specs.Prelude.{ℕ, ◌-◌, ◌≤◌, Option, length, sum_by}
use Rattle.gate_net.specs.Net.{Node, Net, drivers_in}
use Rattle.wire_edit.specs.Refusals.{live_count, ceiling}

-- the pins beyond the first
abbrev pub more_pins : Option Node → ℕ
more_pins o = length (drivers_in o) - 1

-- at most as many live nodes, and pins beyond the first of their gates, as a net may grow to, and few observed places
pub record IsWithin (net : Net) : Type 0 where
  pub pins : sum_by more_pins net.nodes ≤ ceiling
  pub nodes : live_count net ≤ ceiling
  pub observed : length net.observed ≤ 131072
