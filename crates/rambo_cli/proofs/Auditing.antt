-- From the audit of a journal and an output to what `check` says of them.
use Rattle.std.proofs.Common.{◌≡◌, ◌≤◌, ℕ, List, refl, inl, inr, arith}
use Rattle.std.specs.Prelude.{Option, None, Some, IfSome, IsSome, IsSomeAnd}
use Rattle.rm_base.specs.Causes.{Rose}
use Rattle.rm_base.specs.Files.{Files, file_of}
use Rattle.rm_model.specs.declared.parts.Model.{Model}
use Rattle.cover_decompose.specs.Count.{decomposed}
use Rattle.journal_audit.specs.Audited.{IsPassed, IsProblem}
use Rattle.journal_audit.specs.declared.problem.AuditProblem.{AuditProblem}
use Rattle.journal_audit.specs.declared.problem.AuditProblem.TheVariants as audit
use Rattle.rambo_cli.specs.Inner.Composition.{PassedAuditsTell}
use Rattle.rambo_cli.specs.Check.{Audited, CheckFinds, HasPassed}
use Rattle.rambo_cli.specs.Contract.{Caused}
use Rattle.rambo_cli.specs.Files.{Holds}
use Rattle.rambo_cli.specs.Input.{CauseBy, ReadCause}
use Rattle.rambo_cli.specs.Problems.{audit_problem}
use Rattle.rambo_cli.specs.Inner.Problems.{ModelCauseBy}
use Rattle.rambo_cli.specs.Written.{ExceedsBy, IsSaid}
use Rattle.rambo_cli.specs.Inner.Written.{IsUsable}
use Rattle.rambo_cli.specs.declared.problem.Problem.{Problem}
use Rattle.rambo_cli.specs.declared.problem.Problem.TheVariants.{Fault, Journal, Limit, Proof, Memory, Missing, Netlist, Second, Unlike, Record, Text, Words, CareShape, Window}
use Rattle.rm_base.specs.Words.{Word}

audited : (found : AuditProblem) (m : Model) (input journal output : Word) (files : Option Files) → IfSome files (λ told. Holds told input (λ text. IsSaid text m)) → decomposed m ≤ 65536
    → IfSome files (λ told. IsProblem m told journal output found) → IfSome files (Audited input journal output found)
audited found m input journal output None said few problem = tt
audited found m input journal output (Some told) said few problem = (m, (said, (few, problem)))

pub some_and : (files : Option Files) (P : Files → Type 0) → IsSome files → IfSome files P → IsSomeAnd files P
some_and None P some p = absurd cc
some_and (Some told) P some p = p

-- what the audit found is why `check` doesn't pass
pub audit_cause : (found : AuditProblem) (m : Model) (input journal output : Word) (files : Option Files) (before now : ℕ) → IfSome files (λ told. Holds told input (λ text. IsSaid text m)) → decomposed m ≤ 65536
    → IfSome files (λ told. IsProblem m told journal output found) → (found ≡ audit.NoJournal → IsSome files) → (found ≡ audit.NoOutput → IsSome files) → (found ≡ audit.Fault → Rose before now)
    → Caused (CheckFinds input journal output files) before now (audit_problem found)
audit_cause audit.Fault m input journal output files before now said few problem journals outputs rose = rose refl
audit_cause audit.NoMemory m input journal output files before now said few problem journals outputs rose = tt
audit_cause audit.NoJournal m input journal output files before now said few problem journals outputs rose =
    inr (inl (some_and files (Audited input journal output audit.NoJournal) (journals refl) (audited audit.NoJournal m input journal output files said few problem)))
audit_cause audit.NoOutput m input journal output files before now said few problem journals outputs rose =
    inr (inr (some_and files (Audited input journal output audit.NoOutput) (outputs refl) (audited audit.NoOutput m input journal output files said few problem)))
audit_cause audit.TooLong m input journal output files before now said few problem journals outputs rose = inr (refl, audited audit.TooLong m input journal output files said few problem)
audit_cause (audit.Text f) m input journal output files before now said few problem journals outputs rose = audited (audit.Text f) m input journal output files said few problem
audit_cause (audit.Refused r) m input journal output files before now said few problem journals outputs rose = audited (audit.Refused r) m input journal output files said few problem
audit_cause (audit.Netlist byte) m input journal output files before now said few problem journals outputs rose = audited (audit.Netlist byte) m input journal output files said few problem

-- and so is what is found of the input
pub read_in_check : (input journal output : Word) (files : Option Files) (before now : ℕ) (problem : Problem) → ReadCause input files before now problem → Caused (CheckFinds input journal output files) before now problem
read_in_check input journal output files before now Fault h = h
read_in_check input journal output files before now Memory h = tt
read_in_check input journal output files before now Words h = absurd h
read_in_check input journal output files before now (Text kind place) h = h
read_in_check input journal output files before now (Limit quantity count) h = inl h
read_in_check input journal output files before now Missing h = inl h
read_in_check input journal output files before now (Journal f) h = absurd h
read_in_check input journal output files before now (Record r) h = absurd h
read_in_check input journal output files before now (Netlist byte) h = absurd h
read_in_check input journal output files before now (Second found) h = absurd h
read_in_check input journal output files before now (Unlike list at) h = absurd h
read_in_check input journal output files before now CareShape h = absurd h
read_in_check input journal output files before now (Window number stop) h = absurd h
read_in_check input journal output files before now (Proof found) h = absurd h

-- and a passed audit is what `check` says
pub audit_passed : (tell : PassedAuditsTell) (m : Model) (input journal output : Word) (count : ℕ) (files : Option Files) → IsUsable m → IfSome files (λ told. Holds told input (λ text. IsSaid text m)) → decomposed m ≤ 65536
    → IfSome files (λ told. IsPassed m told journal output count) → IfSome files (HasPassed input journal output count)
audit_passed tell m input journal output count None usable said few passed = tt
audit_passed tell m input journal output count (Some told) usable said few passed = (m, (said, (few, (passed, tell m told journal output count usable.formed usable.ranked usable.ranks passed))))

-- a model that was read and has too many pins is why its text isn't decomposed
pub too_many : (wires : Model → ℕ) (m : Model) (input : Word) (files : Option Files) (before now : ℕ) (problem : Problem) → IfSome files (λ told. Holds told input (λ text. IsSaid text m)) → ModelCauseBy wires m 0 0 problem → CauseBy wires input files before now problem
too_many wires m input None before now (Limit quantity count) said cause = tt
too_many wires m input (Some told) before now (Limit quantity count) said (named, (counted, many)) = at (file_of told input) said
  where
    at : (text : Option (List ℕ)) → IsSomeAnd text (λ t. IsSaid t m) → IsSomeAnd text (λ t. ExceedsBy wires t quantity count)
    at None none = absurd none
    at (Some text) is = inr (inr (record { short = is.short; model = m; faultless = is.faultless; reads = is.reads; many = many; named = named; counted = counted }))
too_many wires m input files before now Memory said cause = tt
too_many wires m input files before now Fault said cause = absurd (omega (arith, cause))
too_many wires m input files before now Words said cause = absurd cause
too_many wires m input files before now (Text kind place) said cause = absurd cause
too_many wires m input files before now Missing said cause = absurd cause
too_many wires m input files before now (Journal fault) said cause = absurd cause
too_many wires m input files before now (Record refusal) said cause = absurd cause
too_many wires m input files before now (Netlist byte) said cause = absurd cause
too_many wires m input files before now (Second found) said cause = absurd cause
too_many wires m input files before now (Unlike list at) said cause = absurd cause
too_many wires m input files before now CareShape said cause = absurd cause
too_many wires m input files before now (Window number stop) said cause = absurd cause
too_many wires m input files before now (Proof found) said cause = absurd cause
