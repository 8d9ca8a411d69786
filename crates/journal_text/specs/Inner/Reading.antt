-- Beside Reading.antt: what only private contracts, invariants and laws speak of.
use Rattle.std.specs.Prelude.{Bool, List, ◌++◌, Option, Some, None}
use Rattle.refutation.specs.declared.items.Item.{Item}

-- more items behind these
abbrev pub with_items : List Item → Option (List Item) → Option (List Item)
with_items items None = None
with_items items (Some is) = Some (items ++ is)

abbrev pub with_bits : List Bool → Option (List Bool) → Option (List Bool)
with_bits built None = None
with_bits built (Some bs) = Some (built ++ bs)
