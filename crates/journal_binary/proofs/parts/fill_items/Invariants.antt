use Rattle.journal_binary.specs.Fronts.{read_item}
use Rattle.journal_binary.specs.Inner.Parts.{Continues, more_of}
use Rattle.journal_binary.proofs.parts.fill_items.Given as goal

abbrev pub invariant-loop-left : goal.invariant-loop-left
invariant-loop-left l = Continues (more_of read_item l.initial.tree l.initial.left) (more_of read_item l.tree l.left) l.bytes l.initial.seen l.seen

abbrev pub decreases-loop-left : goal.decreases-loop-left
decreases-loop-left l = l.left
