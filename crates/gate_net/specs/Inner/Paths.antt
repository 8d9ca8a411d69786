-- Beside Paths.antt: what only private contracts, invariants and laws speak of.
use Rattle.std.specs.List.{list_any}
use Rattle.std.specs.Prelude.{◌||◌, ℕ, zero, suc, Bool, nat_eq}
use Rattle.gate_net.specs.Net.{Net, drivers_of}

-- whether a node is the gate or is reached from it, looking back over so many pins
abbrev pub is_after : ℕ → Net → ℕ → ℕ → Bool
is_after zero net gate y = nat_eq y gate
is_after (suc n) net gate y = nat_eq y gate || list_any (is_after n net gate) (drivers_of net y)
