use Rattle.std.proofs.Common.{◌∙◌}
use Rattle.gate_graph.specs.Circuit.{net_of}
use Rattle.wire_edit.specs.Tests.{is_not}
use Rattle.wire_edit.proofs.Touching.{walk_start}
use Rattle.wire_edit.proofs.touch.mark_nots.Goals as goal

pub loop-reader-init : goal.loop-reader-init
loop-reader-init c =
    walk_start c.args.graph.now c.args.node.0 (is_not (net_of c.args.graph.now)) c.args.worklist.now _ c.readers_listed.ensures (c.into_iter-reader-iterator.ensures.into_iter_gives ∙ c.readers_of-reader-items.ensures)
