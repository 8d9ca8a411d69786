-- Beside Audited.antt: what only private contracts, invariants and laws speak of.
use Rattle.std.specs.Prelude.{◌≡◌, ℕ, ◌+◌, ◌≤◌, List, length, Some, None, Result, Ok, Err}
use Rattle.rm_base.specs.Files.{Files, file_of}
use Rattle.journal_audit.specs.Differences.{DifferAfter, DifferAt}
use Rattle.journal_audit.specs.declared.problem.AuditProblem.{AuditProblem}
use Rattle.journal_audit.specs.declared.problem.AuditProblem.TheVariants.{Fault, Netlist, NoMemory, NoOutput}
use Rattle.rm_base.specs.Words.{Word}

-- the problem says where the texts differ
abbrev pub IsDifference : List ℕ → List ℕ → AuditProblem → Type 0
IsDifference text found problem =
    (place : ℕ) × ((problem ≡ Netlist (place + 1)) × ((place ≤ length text) × DifferAfter text found place))

-- what a comparison of the output with a text says
abbrev pub ComparedSays : Files → Word → List ℕ → Result (Unit {0}) AuditProblem → Type 0
ComparedSays files output text (Ok _) = file_of files output ≡ Some text
ComparedSays files output text (Err NoOutput) = file_of files output ≡ None
ComparedSays files output text (Err (Netlist byte)) = (found : List ℕ) × ((file_of files output ≡ Some found) × DifferAt text found byte)
ComparedSays files output text (Err Fault) = Unit {0}
ComparedSays files output text (Err NoMemory) = Unit {0}
ComparedSays files output text (Err _) = ⊥

-- problems of the output, of its shelf and of memory
abbrev pub IsOfOutput : AuditProblem → Type 0
IsOfOutput Fault = Unit {0}
IsOfOutput NoMemory = Unit {0}
IsOfOutput NoOutput = Unit {0}
IsOfOutput (Netlist byte) = Unit {0}
IsOfOutput _ = ⊥
