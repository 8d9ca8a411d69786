use Rattle.std.proofs.Common.{drop}
use Rattle.accepted_steps.proofs.Entering.{AreTakenTo}
use Rattle.accepted_steps.proofs.taking.take_entries.Given as goal

abbrev pub invariant-loop-entry : goal.invariant-loop-entry
invariant-loop-entry l = AreTakenTo l.model l.initial.taking l.entries l.taking (drop l.entry-index l.entries)
