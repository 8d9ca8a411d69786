-- A table of names as contracts see it.
use Rattle.std.specs.Prelude.{◌≤◌, length}
use Rattle.blif_reader.specs.Inner.Tally.{Tally}
use Rattle.blif_reader.specs.declared.names.Names.TheInside.{Inside}

abbrev pub tally : Inside → Tally
tally n = record { entries = n.entries; sources = n.sources; observed = n.observed }

pub record IsWithinLimits (n : Inside) : Type 0 where
  pub sources : n.sources ≤ 1024
  pub observed : n.observed ≤ 4096
  pub signals : length n.entries ≤ 131072
