use Rattle.std.proofs.Common.{length, ap, ◌∙◌, false}
use Rattle.wire_edit.proofs.Marking.{set_count}
use Rattle.wire_edit.proofs.Blocks.{block_unmarked}
use Rattle.wire_edit.proofs.worklist.Worklist.clear_recent.Goals as goal

pub loop-number-preserved : goal.loop-number-preserved
loop-number-preserved c =
    let i = c.loop-number.invariant in
    let marks = c.loop-number.self-inside.marks.items in
    record {
      blocked = block_unmarked marks c.unmark.new.marks.items c.loop-number.self-inside.blocks.items c.in-Some.number i.blocked c.unmark.ensures;
      count = ap length c.unmark.ensures ∙ set_count marks c.in-Some.number false ∙ i.count;
    }
