-- The command `replay IN JOURNAL OUT`: what is written for the accepted steps of a journal that may be cut short.
use Rattle.std.specs.Prelude.{◌≡◌, ◌<◌, ◌≤◌, ◌^◌, ◌⊎◌, ℕ, List, Option, None, IsSomeAnd, length, take, true}
use Rattle.rm_base.specs.Files.{Files, put_file}
use Rattle.rm_base.specs.Words.{Word}
use Rattle.rm_model.specs.Value.{Equivalent, IsRanked}
use Rattle.rm_model.specs.declared.parts.Model.{Model}
use Rattle.gate_net.specs.Net.{Net}
use Rattle.wire_edit.specs.declared.steps.Step.{Step}
use Rattle.blif_lines.specs.Layout.{lines_of}
use Rattle.blif_format.specs.Grammar.{Reads}
use Rattle.blif_format.specs.Text.{text_of}
use Rattle.blif_format.specs.FirstFault.{first_fault}
use Rattle.cover_decompose.specs.Count.{decomposed}
use Rattle.graph_to_model.specs.NetModel.{model_of_net}
use Rattle.graph_to_model.specs.Wires.{wires}
use Rattle.step_replay.specs.Rebuilding.{IsRebuilt}
use Rattle.accepted_steps.specs.Taken.{TakenFrom}
use Rattle.accepted_steps.specs.declared.stop.Stop.{Stop}
use Rattle.blif_format.specs.declared.refusal.Quantity.TheVariants.{Journal as JournalLimit}
use Rattle.rambo_cli.specs.Contract.{Contract}
use Rattle.rambo_cli.specs.Files.{Holds, IfTold, IsAbsent, OfFile}
use Rattle.rambo_cli.specs.Input.{CanBeOptimised}
use Rattle.rambo_cli.specs.Written.{Exceeds, HasFault, IsSaid, most_pins}
use Rattle.rambo_cli.specs.declared.work.Done.{Done}
use Rattle.rambo_cli.specs.declared.work.Done.TheVariants.{Replayed}
use Rattle.rambo_cli.specs.declared.problem.Problem.{Problem}
use Rattle.rambo_cli.specs.declared.problem.Problem.TheVariants.{Text, Limit, Missing}

-- The output that is written for a model and so many of the steps.
pub record IsReplayedInto (m : Model) (steps : List Step) (count : ℕ) (output : List ℕ) : Type 0 where
  pub net : Net
  -- the text written is an acyclic model of the grammar, without a fault
  pub spelled : output ≡ text_of (model_of_net m net)
  pub of_the_grammar : Reads (lines_of output) (model_of_net m net)
  pub acyclic : IsRanked (model_of_net m net)
  pub faultless : first_fault output ≡ None
  -- that for every assignment gives the original's outputs and latch pins
  pub same_function : Equivalent m (model_of_net m net)
  -- with no more gate-input wires than the decomposition
  pub no_more_wires : wires (model_of_net m net) ≤ decomposed m
  -- of the net to which the steps lead, up to where it has the fewest wires, and tidied
  pub rebuilt : IsRebuilt m steps count net

-- the output is written, and all other files are as before
pub record HasReplayed (model : Model) (steps : List Step) (output : Word) (count : ℕ) (old new : Files) : Type 0 where
  pub written : List ℕ
  pub result : IsReplayedInto model steps count written
  pub files : new ≡ put_file output written old

-- the output holds a beginning of what is written for the model and the steps
pub record BeginsReplayed (model : Model) (steps : List Step) (output : Word) (old new : Files) : Type 0 where
  pub count : ℕ
  pub written : List ℕ
  pub result : IsReplayedInto model steps count written
  pub kept : ℕ
  pub files : new ≡ put_file output (take kept written) old

-- nothing has changed, or that is so
abbrev pub BeginsToReplay : Model → List Step → Word → Files → Files → Type 0
BeginsToReplay model steps output old new = (new ≡ old) ⊎ BeginsReplayed model steps output old new

-- that is so of the model that the input says, and of the journal's accepted steps, which this ends
pub record HasReplayedFrom (input journal output : Word) (count : ℕ) (stop : Option Stop) (old new : Files) : Type 0 where
  pub model : Model
  pub input_is : Holds old input (λ text. IsSaid text model)
  pub few : decomposed model ≤ most_pins
  pub steps : List Step
  pub taken : TakenFrom model journal steps stop old
  pub replayed : HasReplayed model steps output count old new

abbrev pub ReplayDoes : Word → Word → Word → Option Files → Option Files → Done → Type 0
ReplayDoes input journal output old new (Replayed count stop) = IfTold old new (HasReplayedFrom input journal output count stop)
ReplayDoes input journal output old new _ = ⊥

-- the journal has more than 2^62 bytes
abbrev pub IsLongJournal : Word → Option Files → Problem → Type 0
IsLongJournal journal files problem = (problem ≡ Limit JournalLimit 4611686018427387905) × OfFile journal files (λ text. 2 ^ 62 < length text)

-- what is found of the input; that the journal isn't there, or is longer than is read
abbrev pub ReplayFinds : Word → Word → Option Files → Problem → Type 0
ReplayFinds input journal files (Text kind place) = OfFile input files (λ text. HasFault text kind place)
ReplayFinds input journal files (Limit quantity count) =
    OfFile input files (λ text. Exceeds text quantity count) ⊎ IsLongJournal journal files (Limit quantity count)
ReplayFinds input journal files Missing = IsAbsent input files ⊎ IsAbsent journal files
ReplayFinds input journal files _ = ⊥

-- the output holds what it held, or a beginning of what is written for the model that the input says and the journal's steps
pub record BeginsReplayedFrom (input journal output : Word) (old new : Files) : Type 0 where
  pub model : Model
  pub input_is : Holds old input (λ text. IsSaid text model)
  pub steps : List Step
  pub stop : Option Stop
  pub taken : TakenFrom model journal steps stop old
  pub begins : BeginsToReplay model steps output old new

-- nothing has changed, or that is so
abbrev pub BeginsToReplayFrom : Word → Word → Word → Files → Files → Type 0
BeginsToReplayFrom input journal output old new = (new ≡ old) ⊎ BeginsReplayedFrom input journal output old new

-- the input can be optimised, and the journal is there, whatever it holds
pub record CanBeReplayed (input journal : Word) (told : Files) : Type 0 where
  pub input_is : Holds told input CanBeOptimised
  pub journal_is : Holds told journal (λ text. length text ≤ 2 ^ 62)

abbrev pub replay_contract : Word → Word → Word → Contract
replay_contract input journal output = record {
  Does = ReplayDoes input journal output;
  Finds = ReplayFinds input journal;
  Leaves = λ old new. IfTold old new (BeginsToReplayFrom input journal output);
  needs_files = true;
  IsGood = λ files. IsSomeAnd files (CanBeReplayed input journal);
  IsJudged = λ files. ⊥;
  IsCompared = λ files. ⊥;
}
