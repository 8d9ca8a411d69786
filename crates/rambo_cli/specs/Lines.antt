-- The lines that a run puts.
use Rattle.std.specs.Prelude.{ℕ, List, [], ◌∷◌, ◌++◌, Option, None, Some, codes}
use Rattle.std.specs.Fmt.{decimal}
use Rattle.rm_base.specs.declared.numbers.Place.{Place}
use Rattle.blif_format.specs.declared.refusal.FaultKind.{FaultKind}
use Rattle.blif_format.specs.declared.refusal.FaultKind.TheVariants.{BadByte, OpenJoin, NoModel, Unsupported, UnknownCommand, MissingWord, ExtraWord, RowOutsideCover, RowLength, RowCharacter, MixedCover, BadLatchWord, DoubleDriven, DoubleOutput, AfterEnd, Undriven, NoRank, BadPin, MissingPin, UnknownModel, DoubleModel, Recursive}
use Rattle.blif_format.specs.declared.refusal.Quantity.{Quantity}
use Rattle.blif_format.specs.declared.refusal.Quantity.TheVariants.{Text, Name, Inputs, Sources, Observed, Signals, Pins, Journal, Flat, Windows}
use Rattle.rm_base.specs.Words.{Word}
use Rattle.journal_audit.specs.Lines.{fault_line as journal_fault_line, number, refusal_line, why_words}
use Rattle.journal_text.specs.declared.faults.JournalFault.{JournalFault as LineFault}
use Rattle.journal_text.specs.declared.faults.JournalFault.TheVariants as line
use Rattle.accepted_steps.specs.declared.stop.Stop.{Stop}
use Rattle.accepted_steps.specs.declared.stop.Stop.TheVariants as stop
use Rattle.rambo_cli.specs.declared.problem.NameList.{NameList}
use Rattle.rambo_cli.specs.declared.problem.NameList.TheVariants.{Sources as SourceNames, Observed as ObservedNames}
use Rattle.rambo_cli.specs.declared.problem.ProofProblem.{ProofProblem}
use Rattle.rambo_cli.specs.declared.problem.ProofProblem.TheVariants as flaw

abbrev pub fault_word : FaultKind → Word
fault_word BadByte = codes "BadByte"
fault_word OpenJoin = codes "OpenJoin"
fault_word NoModel = codes "NoModel"
fault_word Unsupported = codes "Unsupported"
fault_word UnknownCommand = codes "UnknownCommand"
fault_word MissingWord = codes "MissingWord"
fault_word ExtraWord = codes "ExtraWord"
fault_word RowOutsideCover = codes "RowOutsideCover"
fault_word RowLength = codes "RowLength"
fault_word RowCharacter = codes "RowCharacter"
fault_word MixedCover = codes "MixedCover"
fault_word BadLatchWord = codes "BadLatchWord"
fault_word DoubleDriven = codes "DoubleDriven"
fault_word DoubleOutput = codes "DoubleOutput"
fault_word AfterEnd = codes "AfterEnd"
fault_word Undriven = codes "Undriven"
fault_word NoRank = codes "NoRank"
fault_word BadPin = codes "BadPin"
fault_word MissingPin = codes "MissingPin"
fault_word UnknownModel = codes "UnknownModel"
fault_word DoubleModel = codes "DoubleModel"
fault_word Recursive = codes "Recursive"

abbrev pub quantity_word : Quantity → Word
quantity_word Text = codes "text"
quantity_word Name = codes "name"
quantity_word Inputs = codes "inputs"
quantity_word Sources = codes "sources"
quantity_word Observed = codes "observed"
quantity_word Signals = codes "signals"
quantity_word Pins = codes "pins"
quantity_word Journal = codes "journal"
quantity_word Flat = codes "flat"
quantity_word Windows = codes "windows"

-- `text LINE:COLUMN KIND`
abbrev pub fault_line : FaultKind → Place → List ℕ
fault_line kind place = codes "text " ++ (decimal place.line ++ (codes ":" ++ (decimal place.column ++ (codes " " ++ (fault_word kind ++ 10 ∷ [])))))

-- `limit QUANTITY COUNT`
abbrev pub limit_line : Quantity → ℕ → List ℕ
limit_line quantity count = codes "limit " ++ (quantity_word quantity ++ (codes " " ++ (decimal count ++ 10 ∷ [])))

abbrev pub words_line : List ℕ
words_line = codes "words refused" ++ 10 ∷ []

abbrev pub shelf_line : List ℕ
shelf_line = codes "fault shelf" ++ 10 ∷ []

abbrev pub memory_line : List ℕ
memory_line = codes "memory" ++ 10 ∷ []

-- `flat I C`: how many instances and covers a flat model has
abbrev pub flat_line : ℕ → ℕ → List ℕ
flat_line instances covers = codes "flat " ++ (decimal instances ++ (codes " " ++ (decimal covers ++ 10 ∷ [])))

-- `cut N B`: how many windows a model is cut into, and how many signals they hand on
abbrev pub cut_line : ℕ → ℕ → List ℕ
cut_line windows signals = codes "cut " ++ (decimal windows ++ (codes " " ++ (decimal signals ++ 10 ∷ [])))

-- `sewn N R W D`: how many windows there are, how many of them were replayed, and the wires of what is written and of the input
abbrev pub sewn_line : ℕ → ℕ → ℕ → ℕ → List ℕ
sewn_line windows replayed wires before = codes "sewn" ++ (number windows ++ (number replayed ++ (number wires ++ (number before ++ 10 ∷ []))))

-- a line about the second of two texts
abbrev pub second_line : List ℕ → List ℕ
second_line line = codes "second " ++ line

abbrev pub list_word : NameList → Word
list_word SourceNames = codes "sources"
list_word ObservedNames = codes "observed"

-- `unlike LIST PLACE`: where the names of two models differ first
abbrev pub unlike_line : NameList → ℕ → List ℕ
unlike_line list place = codes "unlike " ++ (list_word list ++ (codes " " ++ (decimal place ++ 10 ∷ [])))

-- CARE is no single condition
abbrev pub care_shape_line : List ℕ
care_shape_line = codes "care shape" ++ 10 ∷ []

-- what is wrong with a line of a proof, and which line it is
abbrev pub line_words : LineFault → List ℕ
line_words (line.BadHeader n) = codes "BadHeader" ++ number n
line_words (line.BadRecord n) = codes "BadRecord" ++ number n
line_words (line.Truncated n) = codes "Truncated" ++ number n
line_words (line.AfterEnd n) = codes "AfterEnd" ++ number n
line_words line.NoMemory = codes "NoMemory"

-- `KIND LINE` of a text that is no proof; `record N` and why that line of evidence is refused, in the words of `check`; or `NotOne`
abbrev pub flaw_words : ProofProblem → List ℕ
flaw_words (flaw.Text f) = line_words f
flaw_words (flaw.Record r) = codes "record" ++ (number r.number ++ (32 ∷ why_words r.why))
flaw_words (flaw.NoStep n) = codes "record" ++ (number n ++ codes " NoStep")
flaw_words flaw.NotOne = codes "NotOne"

-- `proof`, and the first flaw of it
abbrev pub proof_line : ProofProblem → List ℕ
proof_line found = codes "proof " ++ (flaw_words found ++ 10 ∷ [])

-- `accepted N`: how many records a journal has that is accepted
abbrev pub accepted_line : ℕ → List ℕ
accepted_line count = codes "accepted " ++ (decimal count ++ 10 ∷ [])

-- what `check` prints of what ends the steps
abbrev pub stop_line : Stop → List ℕ
stop_line (stop.Text f) = journal_fault_line f
stop_line (stop.Refused r) = refusal_line r

-- `replayed R`: how many steps lead to the output; behind it, where something of the journal ends them, `stopped` and what `check`
-- prints of that
abbrev pub replayed_lines : ℕ → Option Stop → List ℕ
replayed_lines count None = codes "replayed " ++ (decimal count ++ 10 ∷ [])
replayed_lines count (Some found) = (codes "replayed " ++ (decimal count ++ 10 ∷ [])) ++ (codes "stopped " ++ stop_line found)

-- `window K`, and what `check` prints of what ends the steps of the K-th window's journal
abbrev pub window_line : ℕ → Stop → List ℕ
window_line number found = codes "window " ++ (decimal number ++ (codes " " ++ stop_line found))

-- `converted N`: how many records a journal has that is converted
abbrev pub converted_line : ℕ → List ℕ
converted_line count = codes "converted " ++ (decimal count ++ 10 ∷ [])

abbrev pub equal_line : List ℕ
equal_line = codes "equal" ++ 10 ∷ []

-- `undecided BUDGET`: after so many edges of the search
abbrev pub undecided_line : ℕ → List ℕ
undecided_line budget = codes "undecided " ++ (decimal budget ++ 10 ∷ [])
