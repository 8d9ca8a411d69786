-- Beside Problems.antt: what only private contracts, invariants and laws speak of.
use Rattle.journal_check.specs.declared.refusal.JournalRefusal.{JournalRefusal}
use Rattle.journal_check.specs.declared.refusal.Why.{Why}
use Rattle.journal_check.specs.declared.refusal.Why.TheVariants as why
use Rattle.journal_audit.specs.declared.problem.AuditProblem.{AuditProblem}
use Rattle.journal_audit.specs.declared.problem.AuditProblem.TheVariants.{NoMemory, Refused}

abbrev pub refused_for : JournalRefusal → Why → AuditProblem
refused_for refusal why.NoMemory = NoMemory
refused_for refusal _ = Refused refusal

-- a refusal, or want of memory
abbrev pub refusal_problem : JournalRefusal → AuditProblem
refusal_problem refusal = refused_for refusal refusal.why
