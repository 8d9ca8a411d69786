use Rattle.journal_binary.proofs.Turns.{kept_moved}
use Rattle.journal_binary.proofs.reader.BinaryReader.make_room.Goals as goal

pub overflow_sub-self : goal.overflow_sub-self
overflow_sub-self c = c.self.invariant.goes.after

pub invariant_of-self : goal.invariant_of-self
invariant_of-self c = kept_moved c.self.inside.bytes.items c.move_front.new.bytes.items c.self.inside.start c.self.inside.seen c.self.inside.part c.move_front.ensures c.self.invariant
