use Rattle.std.proofs.Common.{ap, length, length-set, subst, sym, ℕ, ◌<◌, ◌∙◌}
use Rattle.gate_graph.specs.Circuit.{net_of}
use Rattle.fault_sim.proofs.Blocking.{block_read, followed_more}
use Rattle.fault_sim.specs.declared.blocks.Block.{Block}
use Rattle.fault_sim.proofs.blocks.follow_all.Goals as goal
use Rattle.rm_base.specs.Numbers.{numbers_of}

pub loop-block-preserved : goal.loop-block-preserved
loop-block-preserved c = record {
  followed = followed_more (net_of c.args.graph.now) (numbers_of c.args.order.now) (length c.args.places.now) c.args.blocks.now c.loop-block.blocks c.loop-block.block-index c.block-item.result c.follow_block.new.block
      (block_read c.loop-block.blocks c.loop-block.block-index c.block-item.result (subst (λ (n : ℕ). c.loop-block.block-index < n) (sym c.loop-block.invariant.count) c.loop-block-test.true) c.block-item.is) (ap (λ v. v.items) c.follow_block.ensures.words ∙ ap (λ (b : Block). b.words.items) (sym c.block-item.is)) c.follow_block.ensures.block c.loop-block.invariant.followed;
  count = length-set c.loop-block.blocks c.loop-block.block-index c.follow_block.new.block ∙ c.loop-block.invariant.count;
  placed = c.follow_block.ensures.placed;
}
