-- The command `flat IN OUT`.
use Rattle.std.specs.Prelude.{◌≡◌, ◌≤◌, ◌<◌, ◌+◌, ◌⊎◌, ℕ, List, Option, None, Some, IsSomeAnd, length, take, true}
use Rattle.rm_base.specs.Files.{Files, put_file}
use Rattle.rm_base.specs.declared.numbers.Place.{Place}
use Rattle.rm_base.specs.Words.{Word}
use Rattle.rm_model.specs.declared.parts.Model.{Model}
use Rattle.blif_lines.specs.Layout.{lines_of}
use Rattle.blif_format.specs.FirstFault.{first_fault as first_flat_fault}
use Rattle.blif_format.specs.Grammar.{Reads}
use Rattle.blif_format.specs.Laws.{IsAtMostLimit}
use Rattle.blif_format.specs.Text.{text_of}
use Rattle.blif_format.specs.declared.refusal.FaultKind.{FaultKind}
use Rattle.blif_format.specs.declared.refusal.Quantity.{Quantity}
use Rattle.blif_format.specs.declared.refusal.Quantity.TheVariants.{Text as TextLimit}
use Rattle.blif_format.specs.declared.refusal.ReadRefusal.TheVariants.{Fault, Limit as LimitAt}
use Rattle.blif_flatten.specs.FirstFault.{first_fault}
use Rattle.blif_flatten.specs.Meant.{IsFlatModel}
use Rattle.rambo_cli.specs.Contract.{Contract}
use Rattle.rambo_cli.specs.Files.{Holds, IfTold, IsAbsent, OfFile}
use Rattle.rambo_cli.specs.Written.{most_bytes}
use Rattle.rambo_cli.specs.declared.input_model.FlatLimits.{FlatLimits}
use Rattle.rambo_cli.specs.declared.work.Done.{Done}
use Rattle.rambo_cli.specs.declared.work.Done.TheVariants.{Flattened}
use Rattle.rambo_cli.specs.declared.problem.Problem.{Problem}
use Rattle.rambo_cli.specs.declared.problem.Problem.TheVariants.{Text, Limit, Missing}

-- what `flat` takes: so many bytes of text, and so many tokens of all instances
abbrev pub flat_limits : FlatLimits
flat_limits = record { bytes = most_bytes; tokens = 4194304 }

-- what `cut` and `sew` take: as many as 32 bits number
abbrev pub wide_limits : FlatLimits
wide_limits = record { bytes = 4294967295; tokens = 4294967295 }

-- the flat model of a text within the limits, of so many instances
pub record IsFlat (limits : FlatLimits) (text : List ℕ) (model : Model) (instances : ℕ) : Type 0 where
  pub short : length text ≤ limits.bytes
  pub flat : IsFlatModel limits.tokens text model instances

-- what is written for a text that has no fault: the text of its flat model, which is well formed, ranked and means what the
-- hierarchy means; read again it is that model, and exceeds a limit at most
pub record IsFlattenedInto (input : List ℕ) (instances covers : ℕ) (written : List ℕ) : Type 0 where
  pub short : length input ≤ flat_limits.bytes
  pub model : Model
  pub flat : IsFlatModel flat_limits.tokens input model instances
  pub counted : covers ≡ length model.covers
  pub spelled : written ≡ text_of model
  pub of_the_grammar : Reads (lines_of written) model
  pub faultless : IsAtMostLimit (first_flat_fault written)

-- the output holds what is written for the input's text, and all other files are as before
pub record HasFlattened (input output : Word) (instances covers : ℕ) (old new : Files) : Type 0 where
  pub written : List ℕ
  pub result : Holds old input (λ text. IsFlattenedInto text instances covers written)
  pub files : new ≡ put_file output written old

abbrev pub FlatDoes : Word → Word → Option Files → Option Files → Done → Type 0
FlatDoes input output old new (Flattened instances covers) = IfTold old new (HasFlattened input output instances covers)
FlatDoes input output old new _ = ⊥

-- the first fault of a text that may have several models
pub record HasFlatFault (limits : FlatLimits) (text : List ℕ) (kind : FaultKind) (place : Place) : Type 0 where
  pub short : length text ≤ limits.bytes
  pub fault : first_fault limits.tokens text ≡ Some (Fault kind place)

pub record IsOverlong (limits : FlatLimits) (text : List ℕ) (quantity : Quantity) (count : ℕ) : Type 0 where
  pub long : limits.bytes < length text
  pub named : quantity ≡ TextLimit
  pub counted : count ≡ limits.bytes + 1

pub record ExceedsFlatAt (limits : FlatLimits) (text : List ℕ) (quantity : Quantity) (count : ℕ) : Type 0 where
  pub short : length text ≤ limits.bytes
  pub place : Place
  pub fault : first_fault limits.tokens text ≡ Some (LimitAt quantity count place)

-- a quantity over its limit: the length of the text, or one of its first fault
abbrev pub ExceedsFlat : FlatLimits → List ℕ → Quantity → ℕ → Type 0
ExceedsFlat limits text quantity count = IsOverlong limits text quantity count ⊎ ExceedsFlatAt limits text quantity count

-- the input's first fault, a quantity over its limit, or that it isn't there
abbrev pub FlatFinds : FlatLimits → Word → Option Files → Problem → Type 0
FlatFinds limits input files (Text kind place) = OfFile input files (λ text. HasFlatFault limits text kind place)
FlatFinds limits input files (Limit quantity count) = OfFile input files (λ text. ExceedsFlat limits text quantity count)
FlatFinds limits input files Missing = IsAbsent input files
FlatFinds limits input files _ = ⊥

-- the output holds a beginning of what is written for the input's text
pub record BeginsFlat (input output : Word) (old new : Files) : Type 0 where
  pub instances : ℕ
  pub covers : ℕ
  pub written : List ℕ
  pub result : Holds old input (λ text. IsFlattenedInto text instances covers written)
  pub count : ℕ
  pub files : new ≡ put_file output (take count written) old

-- the text has no fault and is within the limits
pub record CanBeFlattened (limits : FlatLimits) (text : List ℕ) : Type 0 where
  pub short : length text ≤ limits.bytes
  pub faultless : first_fault limits.tokens text ≡ None

abbrev pub flat_contract : Word → Word → Contract
flat_contract input output = record {
  Does = FlatDoes input output;
  Finds = FlatFinds flat_limits input;
  Leaves = λ old new. IfTold old new (λ before after. (after ≡ before) ⊎ BeginsFlat input output before after);
  needs_files = true;
  IsGood = λ files. IsSomeAnd files (λ told. Holds told input (CanBeFlattened flat_limits));
  IsJudged = λ files. ⊥;
  IsCompared = λ files. ⊥;
}
