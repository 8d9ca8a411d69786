-- Beside Kept.antt: what only private contracts, invariants and laws speak of.
use Rattle.std.specs.Prelude.{ℕ, map, String, Vec}
use Rattle.std.specs.BTreeMap.{BTreeMap}
use Rattle.std.specs.FinMap.{from_entries}
use Rattle.rm_base.specs.Files.{Files}
use Rattle.rm_base.specs.Kept.{entry_of}

abbrev pub files_of : {Y Z : Type 0} → BTreeMap (String Y) (Vec ℕ Z) → Files
files_of m = from_entries (map entry_of m.entries)
