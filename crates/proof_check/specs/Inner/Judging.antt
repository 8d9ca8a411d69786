-- What is found before evidence is weighed.
use Rattle.std.specs.Prelude.{List, Some, ℕ, ◌≡◌}
use Rattle.equal_miter.specs.Refusals.{first_difference}
use Rattle.journal_text.specs.declared.faults.JournalFault.{JournalFault}
use Rattle.journal_text.specs.declared.faults.JournalFault.TheVariants as fault
use Rattle.rm_model.specs.Value.{observed_names, source_names}
use Rattle.rm_model.specs.declared.parts.Model.{Model}
use Rattle.proof_check.specs.Refusals.{IsNoProof}
use Rattle.proof_check.specs.declared.refusal.JudgeRefusal.{JudgeRefusal}
use Rattle.proof_check.specs.declared.refusal.JudgeRefusal.TheVariants.{NoMemory, Text, UnlikeObserved, UnlikeSources}

-- the models have other names
abbrev pub IsUnlikeNames : Model → Model → JudgeRefusal → Type 0
IsUnlikeNames m n (UnlikeSources at) = first_difference (source_names m) (source_names n) ≡ Some at
IsUnlikeNames m n (UnlikeObserved at) = (source_names m ≡ source_names n) × (first_difference (observed_names m) (observed_names n) ≡ Some at)
IsUnlikeNames m n NoMemory = Unit {0}
IsUnlikeNames m n _ = ⊥

-- the fault of a text, as a refusal
abbrev pub refusal_of_text : JournalFault → JudgeRefusal
refusal_of_text fault.NoMemory = NoMemory
refusal_of_text f = Text f

-- no evidence has the text
abbrev pub IsUnread : List ℕ → JudgeRefusal → Type 0
IsUnread text (Text f) = IsNoProof text
IsUnread text NoMemory = Unit {0}
IsUnread text _ = ⊥
