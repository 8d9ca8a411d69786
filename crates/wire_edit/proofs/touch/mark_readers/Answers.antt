use Rattle.std.proofs.Common.{◌∙◌, true}
use Rattle.wire_edit.proofs.Touching.{walk_start, met_start}
use Rattle.wire_edit.proofs.touch.mark_readers.Goals as goal

pub loop-reader-init : goal.loop-reader-init
loop-reader-init c = record {
  walked = walk_start c.args.graph.now c.args.node.0 (λ y. true) c.args.worklist.now _ c.readers_listed.ensures (c.into_iter-reader-iterator.ensures.into_iter_gives ∙ c.readers_of-reader-items.ensures);
  met = met_start c.args.graph.now c.args.node.0 _ c.readers_listed.ensures (c.into_iter-reader-iterator.ensures.into_iter_gives ∙ c.readers_of-reader-items.ensures);
}
