use Rattle.std.proofs.Common.{arith}
use Rattle.rm_base.proofs.Public.{read_stands}
use Rattle.blif_flatten.proofs.Levels.{level-go}
use Rattle.blif_flatten.proofs.recursion.level_link.Goals as goal

pub loop-link-preserved : goal.loop-link-preserved
loop-link-preserved c = λ modules level has.
    let at = read_stands c.args.links.now c.loop-link.link-index c.link-item.result c.loop-link-test.true c.link-item.is in
    let a = c.number_at.ensures in
    let b = c.number_at-in-loop-link.ensures in
    let less = c.if-number_at.false in
    level-go c.args.numbers.now modules level c.args.holder c.loop-link.link-index c.args.links.now c.link-item.result at (omega (arith, a, b, less)) (c.loop-link.invariant modules level has)
