use Rattle.std.proofs.Common.{◌≡◌, drop}
use Rattle.blif_format.specs.FirstFault.{character_fault}
use Rattle.blif_reader.specs.Rows.{columns_on}
use Rattle.blif_reader.proofs.rows.check_characters.Given as goal

abbrev pub invariant-loop-i : goal.invariant-loop-i
invariant-loop-i l = character_fault l.place l.word ≡ character_fault (columns_on l.place l.i) (drop l.i l.word)
