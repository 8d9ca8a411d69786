use Rattle.std.proofs.Common.{List, subst}
use Rattle.std.specs.Prelude.{IfSome, Option}
use Rattle.equal_evidence.proofs.Public.{entries_writable}
use Rattle.equal_evidence.specs.Evidence.{IsWritten}
use Rattle.equal_evidence.specs.declared.evidence.Evidence.TheVariants.{Merged}
use Rattle.journal_text.specs.declared.record.Record.{Record}
use Rattle.equal_sweep.proofs.deciding.look_further.Goals as goal

pub returns-in-Some-2-clause-writable : goal.returns-in-Some-2-clause-writable
returns-in-Some-2-clause-writable c =
    entries_writable c.in-Some-2.run' (subst (λ (found : Option (List Record)). IfSome found (λ run. IsWritten (Merged run))) c.in-Some-2.is c.in_ok-run.ensures.written)
