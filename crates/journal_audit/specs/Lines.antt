-- The lines that say why an audit isn't passed.
use Rattle.std.specs.Prelude.{ℕ, Bool, List, [], ◌∷◌, ◌++◌, codes, if◌then◌else◌}
use Rattle.std.specs.Fmt.{decimal}
use Rattle.refutation_check.specs.declared.refusals.CheckRefusal.{CheckRefusal}
use Rattle.refutation_check.specs.declared.refusals.CheckRefusal.TheVariants as check
use Rattle.wire_edit.specs.declared.refusal.EditRefusal.{EditRefusal}
use Rattle.wire_edit.specs.declared.refusal.EditRefusal.TheVariants as edit
use Rattle.journal_reading.specs.declared.faults.JournalFault.{JournalFault}
use Rattle.journal_reading.specs.declared.faults.JournalFault.TheVariants as fault
use Rattle.journal_reading.specs.declared.faults.Version.{Version}
use Rattle.journal_reading.specs.declared.faults.Version.TheVariants.{One, Two}
use Rattle.journal_check.specs.declared.refusal.JournalRefusal.{JournalRefusal}
use Rattle.journal_check.specs.declared.refusal.Why.{Why}
use Rattle.journal_check.specs.declared.refusal.Why.TheVariants as why
use Rattle.rm_base.specs.Words.{Word}

abbrev pub edit_word : EditRefusal → Word
edit_word (edit.NoNode node) = codes "NoNode"
edit_word (edit.WrongKind node) = codes "WrongKind"
edit_word (edit.NoPin gate position) = codes "NoPin"
edit_word (edit.Cycle from to) = codes "Cycle"
edit_word (edit.AlreadyPin gate node) = codes "AlreadyPin"
edit_word (edit.RuleNotMet rule node) = codes "RuleNotMet"
edit_word edit.Full = codes "Full"

abbrev pub check_word : CheckRefusal → Word
check_word (check.BadLine item) = codes "BadLine"
check_word (check.NotClash item) = codes "NotClash"
check_word (check.NotQuiet item) = codes "NotQuiet"
check_word (check.BadSplit item) = codes "BadSplit"
check_word (check.Shape item) = codes "Shape"
check_word check.NoMemory = codes "NoMemory"

-- the number of the item that a tree's refusal names
abbrev pub item_in : CheckRefusal → ℕ
item_in (check.BadLine item) = item
item_in (check.NotClash item) = item
item_in (check.NotQuiet item) = item
item_in (check.BadSplit item) = item
item_in (check.Shape item) = item
item_in check.NoMemory = 0

abbrev pub fault_word : JournalFault → Word
fault_word (fault.BadHeader v n) = codes "BadHeader"
fault_word (fault.BadRecord v n) = codes "BadRecord"
fault_word (fault.Truncated v n) = codes "Truncated"
fault_word (fault.AfterEnd v n) = codes "AfterEnd"
fault_word fault.NoMemory = codes "NoMemory"

abbrev pub number_in : JournalFault → ℕ
number_in (fault.BadHeader v n) = n
number_in (fault.BadRecord v n) = n
number_in (fault.Truncated v n) = n
number_in (fault.AfterEnd v n) = n
number_in fault.NoMemory = 0

abbrev pub version_word : Version → Word
version_word One = codes "line"
version_word Two = codes "entry"

-- where the text is wrong: a line, or an entry
abbrev pub place_word : JournalFault → Word
place_word (fault.BadHeader v n) = version_word v
place_word (fault.BadRecord v n) = version_word v
place_word (fault.Truncated v n) = version_word v
place_word (fault.AfterEnd v n) = version_word v
place_word fault.NoMemory = version_word One

abbrev pub bit : Bool → ℕ
bit b = if b then 1 else 0

-- a blank and a number
abbrev pub number : ℕ → List ℕ
number n = 32 ∷ decimal n

-- what a refusal says: its name, and what it names
abbrev pub why_words : Why → List ℕ
why_words (why.Tree r) = check_word r ++ (codes " item" ++ number (item_in r))
why_words (why.Edit r) = edit_word r
why_words why.VectorMisses = codes "VectorMisses"
why_words (why.SpentShort edges budget) = codes "SpentShort" ++ (number edges ++ number budget)
why_words (why.FaultMissing f) = codes "FaultMissing" ++ (number f.gate.0 ++ (number f.position ++ number (bit f.value)))
why_words why.RecordExtra = codes "RecordExtra"
why_words (why.NotTidy node) = codes "NotTidy" ++ number node.0
why_words why.NoMemory = codes "NoMemory"

-- `journal record R ...`
abbrev pub refusal_line : JournalRefusal → List ℕ
refusal_line r = codes "journal record" ++ (number r.number ++ (32 ∷ (why_words r.why ++ 10 ∷ [])))

-- `journal line L KIND`, and `journal entry N KIND` of a journal of version 2
abbrev pub fault_line : JournalFault → List ℕ
fault_line f = codes "journal " ++ (place_word f ++ (number (number_in f) ++ (32 ∷ (fault_word f ++ 10 ∷ []))))

-- `netlist BYTE`
abbrev pub netlist_line : ℕ → List ℕ
netlist_line byte = codes "netlist" ++ (number byte ++ 10 ∷ [])
