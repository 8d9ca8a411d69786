use Rattle.journal_binary.specs.Fronts.{read_bit}
use Rattle.journal_binary.specs.Inner.Parts.{Continues, more_of}
use Rattle.journal_binary.proofs.parts.fill_bits.Given as goal

abbrev pub invariant-loop-left : goal.invariant-loop-left
invariant-loop-left l = Continues (more_of read_bit l.initial.values.items l.initial.left) (more_of read_bit l.values.items l.left) l.bytes l.initial.seen l.seen

abbrev pub decreases-loop-left : goal.decreases-loop-left
decreases-loop-left l = l.left
