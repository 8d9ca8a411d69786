-- Names and their entries as one list of pairs.
use Rattle.std.specs.Prelude.{◌≡◌, List, length}
use Rattle.std.specs.List.{zip}
use Rattle.blif_reader.specs.declared.names.NameUse.{NameUse}
use Rattle.blif_reader.specs.declared.name_uses.NameUses.TheInside.{Inside}
use Rattle.rm_base.specs.Words.{Word}

abbrev pub pairs : Inside → List (Word × NameUse)
pairs t = zip t.names t.entries.items

-- each name has an entry
pub record IsPaired (t : Inside) : Type 0 where
  pub same : length t.names ≡ length t.entries.items
