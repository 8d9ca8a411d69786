use Rattle.blif_flatten.proofs.Lines.{count-fits}
use Rattle.std.proofs.Common.{[], arith}
use Rattle.rm_base.proofs.Public.{read_stands}
use Rattle.blif_flatten.proofs.models.count_tokens.Goals as goal

pub overflow_add-count : goal.overflow_add-count
overflow_add-count c =
    let h = count-fits c.args.body.now c.loop-line.line-index c.line-item.result c.loop-line.count c.len.result _ (read_stands c.args.body.now c.loop-line.line-index c.line-item.result c.loop-line-test.true c.line-item.is) (c.loop-line.invariant []) (c.requires []) c.len.ensures in
    omega (arith, h)
