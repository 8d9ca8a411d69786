-- The text of a journal in version 2: numbers of 4 bytes, counts of 8, values of one byte; low bytes first.
use Rattle.std.specs.Prelude.{Bool, List, [], codes, if◌then◌else◌, length, ℕ, ◌++◌, ◌∷◌}
use Rattle.std.specs.Int.{to_le_bytes, w32, w64}
use Rattle.std.specs.List.{flat_map}
use Rattle.refutation.specs.declared.items.Item.{Item}
use Rattle.refutation.specs.declared.items.Item.TheVariants as item
use Rattle.rm_base.specs.declared.numbers.Fault.{Fault}
use Rattle.journal_text.specs.declared.letters.Letter.{Letter}
use Rattle.journal_text.specs.declared.letters.Letter.TheVariants.{Act, Chain, Clash, Compare, Constant, DiffersBack, EqualForward, FaultyBack, FaultyForward, GoodBack, GoodForward, Here, NotDiffers, NotEqual, Out, Quiet, Side, Site, Split, ToFaulty, ToGood, Untried}
use Rattle.journal_text.specs.declared.keywords.Keyword.{Keyword}
use Rattle.journal_text.specs.declared.keywords.Keyword.TheVariants as keyword
use Rattle.journal_text.specs.declared.record.Record.{Record}
use Rattle.journal_text.specs.declared.record.Record.TheVariants as kept
use Rattle.journal_text.specs.Text.{item_letter, line_numbers, step_keyword}
use Rattle.wire_edit.specs.declared.steps.Step.{Step}
use Rattle.wire_edit.specs.declared.steps.Step.TheVariants as step

abbrev pub four : ℕ → List ℕ
four n = to_le_bytes w32 n

abbrev pub eight : ℕ → List ℕ
eight n = to_le_bytes w64 n

abbrev pub one_byte : Bool → ℕ
one_byte b = if b then 1 else 0

-- the byte of an item's letter: its place in the table, from 1
abbrev pub letter_code : Letter → ℕ
letter_code Act = 1
letter_code Site = 2
letter_code Chain = 3
letter_code Out = 4
letter_code Constant = 5
letter_code GoodForward = 6
letter_code FaultyForward = 7
letter_code GoodBack = 8
letter_code FaultyBack = 9
letter_code Compare = 10
letter_code ToFaulty = 11
letter_code ToGood = 12
letter_code EqualForward = 13
letter_code NotDiffers = 14
letter_code NotEqual = 15
letter_code DiffersBack = 16
letter_code Side = 17
letter_code Split = 18
letter_code Clash = 19
letter_code Quiet = 20
letter_code Here = 21
letter_code Untried = 22

-- the byte of a record's keyword; the header and the end have none of their own
abbrev pub keyword_code : Keyword → ℕ
keyword_code keyword.Add = 1
keyword_code keyword.Fix = 2
keyword_code keyword.NewNot = 3
keyword_code keyword.Const = 4
keyword_code keyword.Same = 5
keyword_code keyword.NoPins = 6
keyword_code keyword.OnePin = 7
keyword_code keyword.Twice = 8
keyword_code keyword.Twin = 9
keyword_code keyword.Dead = 10
keyword_code keyword.Hit = 11
keyword_code keyword.Spent = 12
keyword_code keyword.Header = 0
keyword_code keyword.End = 0

-- what stands behind an item's byte
abbrev pub item_rest : Item → List ℕ
item_rest (item.Line l) = flat_map four (line_numbers l)
item_rest (item.Split x first) = four x.0 ++ one_byte first ∷ []
item_rest (item.Clash x) = four x.0
item_rest item.Quiet = []
item_rest item.Here = []
item_rest item.Untried = []

abbrev pub item_bytes : Item → List ℕ
item_bytes i = letter_code (item_letter i) ∷ item_rest i

-- a count and so many parts
abbrev pub counted : {A : Type 0} → (A → List ℕ) → List A → List ℕ
counted f xs = eight (length xs) ++ flat_map f xs

abbrev pub fault_bytes : Fault → List ℕ
fault_bytes fault = four fault.gate.0 ++ four fault.position ++ one_byte fault.value ∷ []

-- what stands behind a step's byte, before its items
abbrev pub step_rest : Step → List ℕ
step_rest (step.Add gate node) = four gate.0 ++ four node.0
step_rest (step.Fix gate position value) = fault_bytes (record { gate = gate; position = position; value = value })
step_rest (step.NewNot node) = four node.0
step_rest (step.Const gate position) = four gate.0 ++ four position
step_rest (step.Same gate position) = four gate.0 ++ four position
step_rest (step.NoPins gate) = four gate.0
step_rest (step.OnePin gate) = four gate.0
step_rest (step.Twice gate) = four gate.0
step_rest (step.Twin gate other) = four gate.0 ++ four other.0
step_rest (step.Dead gate) = four gate.0

-- only additions and fixes have items
abbrev pub step_items : Step → List Item → List ℕ
step_items (step.Add gate node) tree = counted item_bytes tree
step_items (step.Fix gate position value) tree = counted item_bytes tree
step_items _ tree = []

abbrev pub record_bytes : Record → List ℕ
record_bytes (kept.Step s tree) = keyword_code (step_keyword s) ∷ (step_rest s ++ step_items s tree)
record_bytes (kept.Hit fault vector) = 11 ∷ (fault_bytes fault ++ counted (λ (b : Bool). one_byte b ∷ []) vector)
record_bytes (kept.Spent fault tree) = 12 ∷ (fault_bytes fault ++ counted item_bytes tree)

-- the eight bytes by which a journal of version 2 is known: `rambo 2` and LF
abbrev pub magic : List ℕ
magic = codes "rambo 2" ++ 10 ∷ []

-- what stands behind these eight bytes: the budget, how many records there are, and the records
abbrev pub body_text : ℕ → List Record → List ℕ
body_text budget records = four budget ++ (eight (length records) ++ flat_map record_bytes records)

-- the text of a budget and records in version 2
abbrev pub binary_text : ℕ → List Record → List ℕ
binary_text budget records = magic ++ body_text budget records
