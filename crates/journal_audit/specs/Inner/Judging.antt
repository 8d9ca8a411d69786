-- Beside Judging.antt: what only private contracts, invariants and laws speak of.
use Rattle.std.specs.Prelude.{◌≢◌, ℕ, List}
use Rattle.rm_model.specs.declared.parts.Model.{Model}
use Rattle.journal_check.specs.declared.refusal.Why.TheVariants as why
use Rattle.journal_audit.specs.declared.problem.AuditProblem.{AuditProblem}
use Rattle.journal_audit.specs.declared.problem.AuditProblem.TheVariants.{NoMemory, Refused, Text}
use Rattle.journal_audit.specs.Judging.{IsRefusedText, IsFaultyText}

-- what is wrong with the text, or want of memory
abbrev pub IsTextProblem : Model → List ℕ → AuditProblem → Type 0
IsTextProblem m text NoMemory = Unit {0}
IsTextProblem m text (Text f) = IsFaultyText m text f
IsTextProblem m text (Refused refusal) = (refusal.why ≢ why.NoMemory) × IsRefusedText m text refusal
IsTextProblem m text _ = ⊥
