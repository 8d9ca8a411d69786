use Rattle.wire_edit.proofs.Blocks.{block_all}
use Rattle.wire_edit.proofs.worklist.Worklist.mark_all.Goals as goal

pub invariant_of-self : goal.invariant_of-self
invariant_of-self c = block_all c.self.inside.marks.items c.set_all.new.marks.items c.self.inside.blocks.items c.set_all-2.new.marks.items c.self.invariant c.set_all.ensures.count c.set_all-2.ensures.count c.set_all-2.ensures.all
