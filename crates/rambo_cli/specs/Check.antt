-- The command `check IN JOURNAL OUT`.
use Rattle.std.specs.Prelude.{◌≡◌, ◌≤◌, ◌^◌, ◌⊎◌, ℕ, Option, IfSome, IsSome, IsSomeAnd, length, true}
use Rattle.rm_base.specs.Files.{Files, file_of}
use Rattle.rm_model.specs.declared.parts.Model.{Model}
use Rattle.rm_model.specs.Value.{Equivalent}
use Rattle.blif_format.specs.declared.refusal.Quantity.TheVariants.{Journal as JournalLimit}
use Rattle.cover_decompose.specs.Count.{decomposed}
use Rattle.graph_to_model.specs.NetModel.{model_of_net}
use Rattle.journal_audit.specs.Audited.{IsPassed, IsProblem}
use Rattle.journal_audit.specs.declared.problem.AuditProblem.{AuditProblem}
use Rattle.journal_audit.specs.declared.problem.AuditProblem.TheVariants as audit
use Rattle.rambo_cli.specs.Contract.{Contract}
use Rattle.rambo_cli.specs.Files.{Holds, IsAbsent, OfFile}
use Rattle.rambo_cli.specs.Input.{CanBeOptimised}
use Rattle.rambo_cli.specs.Written.{Exceeds, HasFault, IsSaid, most_pins}
use Rattle.rambo_cli.specs.declared.work.Done.{Done}
use Rattle.rambo_cli.specs.declared.work.Done.TheVariants.{Accepted}
use Rattle.rambo_cli.specs.declared.problem.Problem.{Problem}
use Rattle.rambo_cli.specs.declared.problem.Problem.TheVariants.{Text, Limit, Missing, Journal, Record, Netlist}
use Rattle.rm_base.specs.Words.{Word}

-- the journal is accepted for the model that the input says, the output is the text of its last net, and both models have the same
-- outputs and latch pins for every assignment
abbrev pub HasPassed : Word → Word → Word → ℕ → Files → Type 0
HasPassed input journal output count told =
    (model : Model) × (Holds told input (λ text. IsSaid text model)
    × ((decomposed model ≤ most_pins) × ((passed : IsPassed model told journal output count) × Equivalent model (model_of_net model passed.last))))

abbrev pub CheckDoes : Word → Word → Word → Option Files → Option Files → Done → Type 0
CheckDoes input journal output old new (Accepted count) = IfSome old (HasPassed input journal output count)
CheckDoes input journal output old new _ = ⊥

-- the audit of the journal and the output found this of the model that the input says
abbrev pub Audited : Word → Word → Word → AuditProblem → Files → Type 0
Audited input journal output problem told =
    (model : Model) × (Holds told input (λ text. IsSaid text model) × ((decomposed model ≤ most_pins) × IsProblem model told journal output problem))

-- the journal has more than 2^62 bytes
abbrev pub IsTooLong : Word → Word → Word → Option Files → Problem → Type 0
IsTooLong input journal output files problem = (problem ≡ Limit JournalLimit 4611686018427387905) × IfSome files (Audited input journal output audit.TooLong)

-- what is found of the input; that the journal, or the output of an accepted journal, isn't there; the journal's first fault, or its
-- first record that is refused; the first byte at which the output differs
abbrev pub CheckFinds : Word → Word → Word → Option Files → Problem → Type 0
CheckFinds input journal output files (Text kind place) = OfFile input files (λ text. HasFault text kind place)
CheckFinds input journal output files (Limit quantity count) =
    OfFile input files (λ text. Exceeds text quantity count) ⊎ IsTooLong input journal output files (Limit quantity count)
CheckFinds input journal output files Missing =
    IsAbsent input files ⊎ (IsSomeAnd files (Audited input journal output audit.NoJournal) ⊎ IsSomeAnd files (Audited input journal output audit.NoOutput))
CheckFinds input journal output files (Journal f) = IfSome files (Audited input journal output (audit.Text f))
CheckFinds input journal output files (Record r) = IfSome files (Audited input journal output (audit.Refused r))
CheckFinds input journal output files (Netlist byte) = IfSome files (Audited input journal output (audit.Netlist byte))
CheckFinds input journal output files _ = ⊥

-- the input can be optimised, and the journal and the output are there, whatever they hold
pub record AreThere (input journal output : Word) (told : Files) : Type 0 where
  pub input_is : Holds told input CanBeOptimised
  pub journal_is : Holds told journal (λ text. length text ≤ 2 ^ 62)
  pub output_is : IsSome (file_of told output)

abbrev pub check_contract : Word → Word → Word → Contract
check_contract input journal output = record {
  Does = CheckDoes input journal output;
  Finds = CheckFinds input journal output;
  Leaves = λ old new. new ≡ old;
  needs_files = true;
  IsGood = λ files. IsSomeAnd files (λ told. (count : ℕ) × HasPassed input journal output count told);
  IsJudged = λ files. IsSomeAnd files (AreThere input journal output);
  IsCompared = λ files. ⊥;
}
