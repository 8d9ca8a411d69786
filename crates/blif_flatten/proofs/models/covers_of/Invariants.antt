use Rattle.std.proofs.Common.{◌≡◌, ◌++◌, drop}
use Rattle.blif_flatten.specs.Sections.{covers_from}
use Rattle.blif_flatten.specs.Inner.Tokens.{words_in}
use Rattle.blif_flatten.proofs.models.covers_of.Given as goal

abbrev pub invariant-loop-i : goal.invariant-loop-i
invariant-loop-i l = l.covers ++ covers_from (words_in l.text (drop l.i l.body)) ≡ covers_from (words_in l.text l.body)
