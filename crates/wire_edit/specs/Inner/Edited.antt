-- Beside Edited.antt: what only private contracts, invariants and laws speak of.
use Rattle.wire_edit.specs.Changes.{Change, remove}

abbrev pub TakesOut : Change → Type 0
TakesOut (remove gate position) = Unit {0}
TakesOut _ = ⊥
