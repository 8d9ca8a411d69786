-- Beside Meaning.antt: what only private contracts, invariants and laws speak of.
use Rattle.std.specs.Option.{option_map}
use Rattle.std.specs.Prelude.{Bool, Option, Some, not, ◌≡◌}
use Rattle.gate_net.specs.declared.Kind.{Kind}
use Rattle.gate_net.specs.Meaning.{controlling}

-- the value that doesn't control it
abbrev pub noncontrolling : Kind → Option Bool
noncontrolling kind = option_map not (controlling kind)

-- a pin may be added to a gate that has a controlling value
abbrev pub TakesPins : Kind → Type 0
TakesPins kind = (c : Bool) × (controlling kind ≡ Some c)
