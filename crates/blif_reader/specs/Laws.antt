-- What follows of a text that has no first fault.
use Rattle.std.specs.Prelude.{◌≡◌, ℕ, List, None, Some}
use Rattle.rm_model.specs.declared.parts.Model.{Model}
use Rattle.rm_base.specs.declared.numbers.Place.{Place}
use Rattle.blif_lines.specs.Layout.{lines_of}
use Rattle.blif_format.specs.Grammar.{Reads}
use Rattle.blif_format.specs.FirstFault.{first_fault}
use Rattle.blif_format.specs.declared.refusal.Quantity.{Quantity}
use Rattle.blif_format.specs.declared.refusal.ReadRefusal.TheVariants.{Limit}
use Rattle.blif_reader.specs.Limits.{IsWithinLimits}

-- a text without a first fault says a model
abbrev pub FaultlessTextsRead : Type 0
FaultlessTextsRead = (text : List ℕ) → first_fault text ≡ None → (m : Model) × Reads (lines_of text) m

-- the model of a text without a first fault is within the limits
abbrev pub FaultlessTextsAreWithin : Type 0
FaultlessTextsAreWithin = (text : List ℕ) (m : Model) → Reads (lines_of text) m → first_fault text ≡ None → IsWithinLimits m

-- a text that says a model within the limits exceeds none
abbrev pub LimitsAreKept : Type 0
LimitsAreKept =
    (text : List ℕ) (m : Model) → Reads (lines_of text) m → IsWithinLimits m → (quantity : Quantity) (count : ℕ) (place : Place)
    → first_fault text ≡ Some (Limit quantity count place) → ⊥
