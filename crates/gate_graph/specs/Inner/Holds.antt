-- Beside Holds.antt: what only private contracts, invariants and laws speak of.
use Rattle.std.specs.Prelude.{◌≡◌, ℕ, true, List}
use Rattle.pin_pool.specs.Ring.{has, IsApart}
use Rattle.pin_pool.specs.Rings.{IsOut}
use Rattle.gate_graph.specs.Wirings.{Wiring}

-- taken, and in no list
abbrev pub IsHeld : Wiring → ℕ → Type 0
IsHeld w q = (w.rings.taken q ≡ true) × (IsOut w.rings.inputs q × IsOut w.rings.fanouts q)

pub record AreHeld (w : Wiring) (pins : List ℕ) : Type 0 where
  pub apart : IsApart pins
  pub each : (q : ℕ) → has q pins ≡ true → IsHeld w q
