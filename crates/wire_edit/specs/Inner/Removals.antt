-- Beside Removals.antt: what only private contracts, invariants and laws speak of.
use Rattle.std.specs.Prelude.{◌≡◌}
use Rattle.wire_edit.specs.Changes.{Change}
use Rattle.wire_edit.specs.Inner.Changes.{pins_added}

-- the change makes no pin
abbrev pub MakesNoPin : Change → Type 0
MakesNoPin change = pins_added change ≡ 0
