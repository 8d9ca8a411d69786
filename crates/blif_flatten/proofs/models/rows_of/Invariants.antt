use Rattle.std.proofs.Common.{◌≡◌, map, take}
use Rattle.blif_flatten.specs.Sections.{row_from}
use Rattle.blif_flatten.specs.Inner.Tokens.{words_in}
use Rattle.blif_flatten.proofs.models.rows_of.Given as goal

abbrev pub invariant-loop-line : goal.invariant-loop-line
invariant-loop-line l = l.rows.items ≡ map row_from (words_in l.text (take l.line-index l.lines))
