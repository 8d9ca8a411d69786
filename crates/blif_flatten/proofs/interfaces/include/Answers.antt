use Rattle.blif_flatten.proofs.Lines.{include-had}
use Rattle.std.proofs.Common.{◌∙◌, sym}
use Rattle.blif_flatten.proofs.interfaces.include.Goals as goal

pub returns-then-has : goal.returns-then-has
returns-then-has c = λ had are. include-had c.args.formals.now had c.args.name.now are (sym c.has.ensures ∙ c.if-has.true)
