use Rattle.fault_sim.proofs.Blocking.{block_read, grown_more}
use Rattle.fault_sim.proofs.blocks.all_grown.Goals as goal

pub loop-block-preserved : goal.loop-block-preserved
loop-block-preserved c =
    rw c.in_ok-push.ensures.items
    (grown_more c.args.numbers c.args.blocks.now c.loop-block.longer.items c.loop-block.block-index c.block-item.result c.in_ok-again.again
    (block_read c.args.blocks.now c.loop-block.block-index c.block-item.result c.loop-block-test.true c.block-item.is) c.in_ok-again.ensures c.loop-block.invariant)
