-- Reading version 2 from its front: a part and the bytes behind it, or why there is none.
use Rattle.std.specs.Prelude.{Bool, List, None, Option, Some, [], ◌∷◌, ◌==◌, ◌&&◌, nat_le, false, if◌then◌else◌, suc, true, zero, ℕ}
use Rattle.std.specs.Int.{from_le_bytes, w32, w64}
use Rattle.rm_base.specs.declared.numbers.Fault.{Fault}
use Rattle.rm_base.specs.declared.numbers.NodeId.{NodeId}
use Rattle.refutation.specs.declared.items.Item.{Item}
use Rattle.refutation.specs.declared.items.Item.TheVariants as item
use Rattle.refutation.specs.declared.reasoning.Line.TheVariants as line
use Rattle.wire_edit.specs.Order.{node}
use Rattle.wire_edit.specs.declared.steps.Step.{Step}
use Rattle.wire_edit.specs.declared.steps.Step.TheVariants as step
use Rattle.journal_text.specs.Letters.{all_letters}
use Rattle.journal_text.specs.declared.letters.Letter.{Letter}
use Rattle.journal_text.specs.declared.letters.Letter.TheVariants as letter
use Rattle.journal_text.specs.declared.keywords.Keyword.{Keyword}
use Rattle.journal_text.specs.declared.keywords.Keyword.TheVariants as keyword
use Rattle.journal_text.specs.declared.record.Record.{Record}
use Rattle.journal_text.specs.declared.record.Record.TheVariants as kept
use Rattle.journal_binary.specs.Binary.{keyword_code, letter_code}

-- a part with the bytes behind it; or a byte outside its range; or the bytes end before the part is whole
pub data Front (A : Type 0) : Type 0 where
  got : A → List ℕ → Front A
  bad : Front A
  short : Front A

-- and then what is read behind it
abbrev pub then_read : {A B : Type 0} → Front A → (A → List ℕ → Front B) → Front B
then_read (got a rest) f = f a rest
then_read bad f = bad
then_read short f = short

-- a number of 4 bytes
abbrev pub read_four : List ℕ → Front ℕ
read_four (a ∷ b ∷ c ∷ d ∷ rest) = got (from_le_bytes w32 (a ∷ b ∷ c ∷ d ∷ [])) rest
read_four _ = short

-- a count of 8 bytes
abbrev pub read_eight : List ℕ → Front ℕ
read_eight (a ∷ b ∷ c ∷ d ∷ e ∷ f ∷ g ∷ h ∷ rest) = got (from_le_bytes w64 (a ∷ b ∷ c ∷ d ∷ e ∷ f ∷ g ∷ h ∷ [])) rest
read_eight _ = short

-- a byte that is 0 or 1
abbrev pub read_bit : List ℕ → Front Bool
read_bit [] = short
read_bit (b ∷ rest) = if b == 0 then got false rest else (if b == 1 then got true rest else bad)

-- an item with one node
abbrev pub with_node : (NodeId → Item) → List ℕ → Front Item
with_node f bytes = then_read (read_four bytes) (λ n rest. got (f (node n)) rest)

-- an item with a node and a position
abbrev pub with_pin : (NodeId → ℕ → Item) → List ℕ → Front Item
with_pin f bytes = then_read (read_four bytes) (λ n rest. then_read (read_four rest) (λ q rest. got (f (node n) q) rest))

abbrev pub with_bit : (NodeId → Bool → Item) → List ℕ → Front Item
with_bit f bytes = then_read (read_four bytes) (λ n rest. then_read (read_bit rest) (λ b rest. got (f (node n) b) rest))

-- what stands behind the byte of a letter
abbrev pub read_behind : Letter → List ℕ → Front Item
read_behind letter.Act bytes = got (item.Line line.Act) bytes
read_behind letter.Site bytes = got (item.Line line.Site) bytes
read_behind letter.Chain bytes = with_node (λ x. item.Line (line.Chain x)) bytes
read_behind letter.Out bytes = with_node (λ x. item.Line (line.Out x)) bytes
read_behind letter.Constant bytes = with_node (λ x. item.Line (line.Constant x)) bytes
read_behind letter.GoodForward bytes = with_node (λ x. item.Line (line.GoodForward x)) bytes
read_behind letter.FaultyForward bytes = with_node (λ x. item.Line (line.FaultyForward x)) bytes
read_behind letter.GoodBack bytes = with_pin (λ x q. item.Line (line.GoodBack x q)) bytes
read_behind letter.FaultyBack bytes = with_pin (λ x q. item.Line (line.FaultyBack x q)) bytes
read_behind letter.Compare bytes = with_node (λ x. item.Line (line.Compare x)) bytes
read_behind letter.ToFaulty bytes = with_node (λ x. item.Line (line.ToFaulty x)) bytes
read_behind letter.ToGood bytes = with_node (λ x. item.Line (line.ToGood x)) bytes
read_behind letter.EqualForward bytes = with_node (λ x. item.Line (line.EqualForward x)) bytes
read_behind letter.NotDiffers bytes = with_node (λ x. item.Line (line.NotDiffers x)) bytes
read_behind letter.NotEqual bytes = with_node (λ x. item.Line (line.NotEqual x)) bytes
read_behind letter.DiffersBack bytes = with_pin (λ x q. item.Line (line.DiffersBack x q)) bytes
read_behind letter.Side bytes = with_pin (λ x q. item.Line (line.Side x q)) bytes
read_behind letter.Split bytes = with_bit (λ x first. item.Split x first) bytes
read_behind letter.Clash bytes = with_node (λ x. item.Clash x) bytes
read_behind letter.Quiet bytes = got item.Quiet bytes
read_behind letter.Here bytes = got item.Here bytes
read_behind letter.Untried bytes = got item.Untried bytes

-- the letter that the byte is
abbrev pub letter_among : List Letter → ℕ → Option Letter
letter_among [] c = None
letter_among (l ∷ ls) c = if c == letter_code l then Some l else letter_among ls c

abbrev pub read_letter : Option Letter → List ℕ → Front Item
read_letter None bytes = bad
read_letter (Some l) bytes = read_behind l bytes

-- the item at the front
unfoldable pub read_item : List ℕ → Front Item
read_item [] = short
read_item (b ∷ bytes) = read_letter (letter_among all_letters b) bytes

-- so many parts, one after another
unfoldable pub read_many : {A : Type 0} → (List ℕ → Front A) → ℕ → List ℕ → Front (List A)
read_many read zero bytes = got [] bytes
read_many read (suc n) bytes = then_read (read bytes) (λ a rest. then_read (read_many read n rest) (λ more rest. got (a ∷ more) rest))

-- a count of at least 1
abbrev pub some_count : ℕ → List ℕ → Front ℕ
some_count zero rest = bad
some_count (suc n) rest = got (suc n) rest

abbrev pub read_count : List ℕ → Front ℕ
read_count bytes = then_read (read_eight bytes) some_count

-- a count of at least 1, and so many items
abbrev pub read_tree : List ℕ → Front (List Item)
read_tree bytes = then_read (read_count bytes) (λ n rest. read_many read_item n rest)

-- a count of at least 1, and so many bits
abbrev pub read_vector : List ℕ → Front (List Bool)
read_vector bytes = then_read (read_count bytes) (λ n rest. read_many read_bit n rest)

-- a gate, a position and a value
abbrev pub read_fault : List ℕ → Front Fault
read_fault bytes =
    then_read (read_four bytes) (λ gate rest. then_read (read_four rest) (λ position rest. then_read (read_bit rest) (λ value rest.
    got (record { gate = node gate; position = position; value = value }) rest)))

-- a local step, which has no tree
abbrev pub local : Step → Record
local s = kept.Step s []

-- a local step of one number, and of two
abbrev pub with_gate : (NodeId → Step) → List ℕ → Front Record
with_gate f bytes = then_read (read_four bytes) (λ n rest. got (local (f (node n))) rest)

abbrev pub with_place : (NodeId → ℕ → Step) → List ℕ → Front Record
with_place f bytes = then_read (read_four bytes) (λ n rest. then_read (read_four rest) (λ q rest. got (local (f (node n) q)) rest))

-- what stands behind the byte of a keyword
abbrev pub read_fields : Keyword → List ℕ → Front Record
read_fields keyword.Add bytes =
    then_read (read_four bytes) (λ gate rest. then_read (read_four rest) (λ driver rest. then_read (read_tree rest) (λ tree rest.
    got (kept.Step (step.Add (node gate) (node driver)) tree) rest)))
read_fields keyword.Fix bytes =
    then_read (read_fault bytes) (λ f rest. then_read (read_tree rest) (λ tree rest. got (kept.Step (step.Fix f.gate f.position f.value) tree) rest))
read_fields keyword.NewNot bytes = with_gate (λ x. step.NewNot x) bytes
read_fields keyword.Const bytes = with_place (λ x q. step.Const x q) bytes
read_fields keyword.Same bytes = with_place (λ x q. step.Same x q) bytes
read_fields keyword.NoPins bytes = with_gate (λ x. step.NoPins x) bytes
read_fields keyword.OnePin bytes = with_gate (λ x. step.OnePin x) bytes
read_fields keyword.Twice bytes = with_gate (λ x. step.Twice x) bytes
read_fields keyword.Twin bytes = with_place (λ x q. step.Twin x (node q)) bytes
read_fields keyword.Dead bytes = with_gate (λ x. step.Dead x) bytes
read_fields keyword.Hit bytes = then_read (read_fault bytes) (λ f rest. then_read (read_vector rest) (λ vector rest. got (kept.Hit f vector) rest))
read_fields keyword.Spent bytes = then_read (read_fault bytes) (λ f rest. then_read (read_tree rest) (λ tree rest. got (kept.Spent f tree) rest))
read_fields keyword.Header bytes = bad
read_fields keyword.End bytes = bad

-- the keywords of records, in the order of their bytes
abbrev pub record_keywords : List Keyword
record_keywords =
    keyword.Add ∷ keyword.Fix ∷ keyword.NewNot ∷ keyword.Const ∷ keyword.Same ∷ keyword.NoPins ∷ keyword.OnePin ∷ keyword.Twice ∷ keyword.Twin
    ∷ keyword.Dead ∷ keyword.Hit ∷ keyword.Spent ∷ []

abbrev pub keyword_among : List Keyword → ℕ → Option Keyword
keyword_among [] c = None
keyword_among (k ∷ ks) c = if c == keyword_code k then Some k else keyword_among ks c

abbrev pub read_keyword : Option Keyword → List ℕ → Front Record
read_keyword None bytes = bad
read_keyword (Some k) bytes = read_fields k bytes

-- the record at the front
unfoldable pub read_record : List ℕ → Front Record
read_record [] = short
read_record (b ∷ bytes) = read_keyword (keyword_among record_keywords b) bytes

-- the budget is one that a journal may have
abbrev pub in_range : ℕ → List ℕ → Front ℕ
in_range budget rest = if nat_le 1 budget && nat_le budget 1048576 then got budget rest else bad

-- the budget, and how many records are to come
unfoldable pub read_head : List ℕ → Front (ℕ × ℕ)
read_head bytes = then_read (then_read (read_four bytes) in_range) (λ budget rest. then_read (read_eight rest) (λ count rest. got (budget, count) rest))

-- so many records
abbrev pub read_records : ℕ → List ℕ → Front (List Record)
read_records n bytes = read_many read_record n bytes
