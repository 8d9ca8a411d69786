-- Why there is nothing to stand for a window.
use Rattle.std.specs.Prelude.{◌≡◌, ◌<◌, ◌^◌, ℕ, List, Some, length}
use Rattle.rm_base.specs.Files.{Files, file_of}
use Rattle.rm_base.specs.Words.{Word}
use Rattle.rm_model.specs.declared.parts.Model.{Model}
use Rattle.wire_edit.specs.declared.steps.Step.{Step}
use Rattle.accepted_steps.specs.Taken.{TakenFrom}
use Rattle.window_parts.specs.declared.refusal.PartRefusal.{PartRefusal}
use Rattle.window_parts.specs.declared.refusal.PartRefusal.TheVariants.{Fault, Journal, NoMemory, TooLong}

-- the journal is there, and this ends its accepted steps, or it is too long
abbrev pub IsRefusedPart : Model → Word → PartRefusal → Files → Type 0
IsRefusedPart w journal (Journal stop) told = (steps : List Step) × TakenFrom w journal steps (Some stop) told
IsRefusedPart w journal TooLong told = (text : List ℕ) × ((file_of told journal ≡ Some text) × (2 ^ 62 < length text))
IsRefusedPart w journal Fault told = Unit {0}
IsRefusedPart w journal NoMemory told = Unit {0}
