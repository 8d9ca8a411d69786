use Rattle.std.proofs.Common.{subst}
use Rattle.equal_evidence.specs.Evidence.{IsWritten}
use Rattle.equal_evidence.specs.declared.evidence.Evidence.{Evidence}
use Rattle.equal_evidence.proofs.Public.{entries_writable}
use Rattle.proof_check.proofs.weighing.weigh.Goals as goal

pub invariant_of-question : goal.invariant_of-question
invariant_of-question c = record { pin = c.requires.pin }

pub weigh_run-requires-clause-written : goal.weigh_run-requires-clause-written
weigh_run-requires-clause-written c = entries_writable c.in-Merged.run' (subst (λ (e : Evidence). IsWritten e) c.in-Merged.is c.requires.written)
