use Rattle.equal_evidence.proofs.Putting.{IsPut}
use Rattle.equal_evidence.proofs.writing.put_records.Given as goal

abbrev pub invariant-loop-given : goal.invariant-loop-given
invariant-loop-given l = IsPut l.initial.out.items l.records l.out.items l.given-index
