use Rattle.blif_flatten.proofs.Lines.{include-line-go, include-lines-all}
use Rattle.std.proofs.Common.{◌++◌, List, subst, take}
use Rattle.rm_base.proofs.Public.{read_stands}
use Rattle.blif_lines.specs.declared.line.Token.{Token}
use Rattle.blif_format.specs.Grammar.{words_of}
use Rattle.blif_reader.specs.Lines.{words_at}
use Rattle.blif_flatten.specs.Inner.Interfaces.{AreFormals}
use Rattle.blif_flatten.specs.Inner.Tokens.{words_behind, words_in}
use Rattle.blif_flatten.proofs.interfaces.include_lines.Goals as goal

pub loop-line-preserved : goal.loop-line-preserved
loop-line-preserved c = λ had are.
    include-line-go c.include_line.new.formals c.args.text.now c.args.command.now had c.args.body.now c.loop-line.line-index c.line-item.result (read_stands c.args.body.now c.loop-line.line-index c.line-item.result c.loop-line-test.true c.line-item.is)
    (subst (λ (l : List Token). AreFormals c.include_line.new.formals ((had ++ words_of c.args.command.now (words_in c.args.text.now (take c.loop-line.line-index c.args.body.now))) ++ words_behind c.args.command.now (words_at c.args.text.now l))) c.items.ensures (c.in_ok-include_line.ensures (had ++ words_of c.args.command.now (words_in c.args.text.now (take c.loop-line.line-index c.args.body.now))) (c.loop-line.invariant had are)))

pub returns : goal.returns
returns c = λ had are. include-lines-all c.loop-line.formals c.args.text.now c.args.command.now had c.args.body.now c.loop-line.line-index c.loop-line-test.false (c.loop-line.invariant had are)
