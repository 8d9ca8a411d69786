use Rattle.std.proofs.Common.{◌≡◌, ◌++◌, drop}
use Rattle.blif_format.specs.Grammar.{words_of}
use Rattle.blif_flatten.specs.Inner.Tokens.{words_in}
use Rattle.blif_flatten.proofs.models.words_of.Given as goal

abbrev pub invariant-loop-line : goal.invariant-loop-line
invariant-loop-line l = l.names ++ words_of l.command (words_in l.text (drop l.line-index l.body)) ≡ words_of l.command (words_in l.text l.body)
