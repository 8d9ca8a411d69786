-- How many pins of a gate are known to have a value, and how many its opposite.
use Rattle.std.specs.Prelude.{Bool, List, Option, length, not, ℕ, ◌&&◌, ◌≡◌}
use Rattle.gate_net.specs.Forward.{is_known}
use Rattle.implications.specs.Inner.Tallies.{counting}
use Rattle.implications.specs.declared.counts.Count.{Count}
use Rattle.refutation.specs.Facts.{Held}
use Rattle.refutation.specs.declared.reasoning.Fact.TheVariants.{Equal, Good}

-- of pins with these known values: how many have c, how many its opposite, and how many there are
pub record IsCount (n : Count) (c : Bool) (os : List (Option Bool)) : Type 0 where
  pub controlled : n.controlled ≡ counting (is_known c) os
  pub passing : n.passing ≡ counting (is_known (not c)) os
  pub pins : n.pins ≡ length os

-- the driver is held to be equal, and not to have that good value
abbrev pub is_not_passing : Held → Bool → ℕ → Bool
is_not_passing held b d = held d Equal && not (held d (Good b))
