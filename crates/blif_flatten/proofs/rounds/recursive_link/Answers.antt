use Rattle.std.proofs.Common.{◌≡◌, ◌∙◌, sym}
use Rattle.rm_base.proofs.Public.{read_stands}
use Rattle.blif_flatten.proofs.Heights.{link-go, recursive-by}
use Rattle.blif_flatten.proofs.Levels.{level-here}
use Rattle.blif_flatten.proofs.rounds.recursive_link.Goals as goal

pub returns-then-comes_to-clause-some : goal.returns-then-comes_to-clause-some
returns-then-comes_to-clause-some c = λ modules are.
    let at = read_stands c.args.links.now c.loop-link.link-index c.link-item.result c.loop-link-test.true c.link-item.is in
    level-here modules c.args.holder c.loop-link.link-index c.args.links.now c.link-item.result at (c.loop-link.invariant modules are)
    (sym (recursive-by modules c.args.holder c.link-item.result.called c.args.leading.now are) ∙ (sym c.comes_to.ensures ∙ c.if-comes_to.true))

pub loop-link-preserved : goal.loop-link-preserved
loop-link-preserved c = λ modules are.
    let at = read_stands c.args.links.now c.loop-link.link-index c.link-item.result c.loop-link-test.true c.link-item.is in
    link-go modules c.args.holder c.loop-link.link-index c.args.links.now c.link-item.result at
    (sym (recursive-by modules c.args.holder c.link-item.result.called c.args.leading.now are) ∙ (sym c.comes_to.ensures ∙ c.if-comes_to.false)) (c.loop-link.invariant modules are)
