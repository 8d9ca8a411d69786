use Rattle.std.proofs.Common.{List, ◌++◌, take}
use Rattle.rm_base.specs.Words.{Word}
use Rattle.blif_format.specs.Grammar.{words_of}
use Rattle.blif_flatten.specs.Inner.Interfaces.{AreFormals}
use Rattle.blif_flatten.specs.Inner.Tokens.{words_in}
use Rattle.blif_flatten.proofs.interfaces.include_lines.Given as goal

abbrev pub invariant-loop-line : goal.invariant-loop-line
invariant-loop-line l = (had : List Word) → AreFormals l.initial.formals had → AreFormals l.formals (had ++ words_of l.command (words_in l.text (take l.line-index l.body)))
