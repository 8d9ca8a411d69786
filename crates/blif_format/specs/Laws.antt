-- What follows of the grammar, the first fault and the written text.
use Rattle.std.specs.Prelude.{◌≡◌, ℕ, List, [], ◌∷◌, Option, None, Some}
use Rattle.rm_model.specs.Value.{IsRanked}
use Rattle.rm_model.specs.WellFormed.{IsWellFormed}
use Rattle.rm_model.specs.declared.parts.Model.{Model}
use Rattle.blif_lines.specs.Layout.{Logical, layout, lines_of}
use Rattle.blif_format.specs.Text.{Line, text_of}
use Rattle.blif_format.specs.Grammar.{Reads}
use Rattle.blif_format.specs.FirstFault.{first_fault}
use Rattle.blif_format.specs.declared.refusal.ReadRefusal.{ReadRefusal}
use Rattle.blif_format.specs.declared.refusal.ReadRefusal.TheVariants.{Limit}

-- no logical line has a layout fault
abbrev pub AreFlawless : List Logical → Type 0
AreFlawless [] = Unit {0}
AreFlawless (l ∷ ls) = (l.flaw ≡ None) × AreFlawless ls

-- at most a limit is exceeded
abbrev pub IsAtMostLimit : Option ReadRefusal → Type 0
IsAtMostLimit None = Unit {0}
IsAtMostLimit (Some (Limit quantity count place)) = Unit {0}
IsAtMostLimit (Some refusal) = ⊥

-- lines say one model at most
abbrev pub ReadsOnce : Type 0
ReadsOnce = (lines : List Line) (m n : Model) → Reads lines m → Reads lines n → m ≡ n

-- a text whose lines say a model exceeds a limit at most
abbrev pub ReadTextsAreFaultless : Type 0
ReadTextsAreFaultless =
    (text : List ℕ) (m : Model) → AreFlawless (layout text) → Reads (lines_of text) m → IsAtMostLimit (first_fault text)

-- the written text of a model says that model
abbrev pub WrittenTextsRead : Type 0
WrittenTextsRead =
    (m : Model) → IsWellFormed m → IsRanked m → AreFlawless (layout (text_of m)) × Reads (lines_of (text_of m)) m
