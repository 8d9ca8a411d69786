use Rattle.std.proofs.Common.{◌≡◌, ◌++◌, take, drop}
use Rattle.blif_format.specs.Grammar.{before, is_dotted}
use Rattle.blif_flatten.specs.Inner.Tokens.{words_in}
use Rattle.blif_flatten.proofs.models.row_count.Given as goal

abbrev pub invariant-loop-i : goal.invariant-loop-i
invariant-loop-i l = before is_dotted (words_in l.text l.lines) ≡ take l.i (words_in l.text l.lines) ++ before is_dotted (words_in l.text (drop l.i l.lines))
