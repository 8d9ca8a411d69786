-- Items and records are read from their bytes.
use Rattle.std.proofs.Common.{Bool, List, [], ap, arith, false, length, refl, sym, true, ℕ, ◌++◌, ◌+◌, ◌<◌, ◌^◌, ◌∙◌, ◌∷◌, ◌≡◌, ◌≢◌, ◌≤◌, append_assoc, ◌&&◌, nat_le, if◌then◌else◌}
use Rattle.std.specs.List.{AllByRecursion, flat_map}
use Rattle.std.proofs.lemmas.Bool.{le-leb}
use Rattle.std.proofs.lemmas.List.{append-nil}
use Rattle.std.proofs.lemmas.Nat.{from_le_bytes-to_le_bytes_4, from_le_bytes-to_le_bytes_8}
use Rattle.refutation.specs.declared.items.Item.{Item}
use Rattle.refutation.specs.declared.items.Item.TheVariants as item
use Rattle.refutation.specs.declared.reasoning.Line.{Line}
use Rattle.refutation.specs.declared.reasoning.Line.TheVariants as line
use Rattle.rm_base.specs.declared.numbers.Fault.{Fault}
use Rattle.rm_base.specs.declared.numbers.NodeId.{NodeId}
use Rattle.wire_edit.specs.Order.{node}
use Rattle.wire_edit.specs.declared.steps.Step.{Step}
use Rattle.wire_edit.specs.declared.steps.Step.TheVariants as step
use Rattle.journal_text.specs.Text.{AreEntries, AreItems, IsEntry, IsFault, IsItem, IsNumber, journal_entries, record_entries}
use Rattle.journal_text.specs.declared.keywords.Keyword.TheVariants as keyword
use Rattle.journal_text.specs.declared.record.Record.{Record}
use Rattle.journal_text.specs.declared.record.Record.TheVariants as kept
use Rattle.journal_text.specs.declared.record.Entry.{Entry}
use Rattle.journal_text.specs.declared.record.Entry.TheVariants as entry
use Rattle.journal_binary.specs.Binary.{body_text, counted, eight, fault_bytes, four, item_bytes, one_byte, record_bytes}
use Rattle.journal_binary.specs.Faults.{IsBody}
use Rattle.journal_binary.specs.Fronts.{Front, bad, got, in_range, read_bit, read_count, read_eight, read_fault, read_fields, read_four, read_head, read_item, read_many, read_record, read_tree, read_vector, some_count, then_read, with_bit, with_node, with_pin}
use Rattle.journal_binary.specs.Laws.{IsCounted}
use Rattle.journal_binary.proofs.Steady.{many_none, many_one, record_is}
use Rattle.journal_binary.proofs.Spelled.{bit_bytes}

four_read : (n : ℕ) (rest : List ℕ) → IsNumber n → read_four (four n ++ rest) ≡ got n rest
four_read n rest le = ap (λ (k : ℕ). got k rest) (from_le_bytes-to_le_bytes_4 n (omega (arith, le)))

bit_read : (b : Bool) (rest : List ℕ) → read_bit (one_byte b ∷ rest) ≡ got b rest
bit_read false rest = refl
bit_read true rest = refl

node_read : (f : NodeId → Item) (x : NodeId) (rest : List ℕ) → IsNumber x.0 → with_node f (four x.0 ++ rest) ≡ got (f x) rest
node_read f x rest le = ap (λ (r : Front ℕ). then_read r (λ n rest. got (f (node n)) rest)) (four_read x.0 rest le)

pin_read : (f : NodeId → ℕ → Item) (x : NodeId) (q : ℕ) (rest : List ℕ) → IsNumber x.0 → IsNumber q → with_pin f (four x.0 ++ (four q ++ rest)) ≡ got (f x q) rest
pin_read f x q rest le most =
    ap (λ (r : Front ℕ). then_read r (λ n rest. then_read (read_four rest) (λ q rest. got (f (node n) q) rest))) (four_read x.0 (four q ++ rest) le)
    ∙ ap (λ (r : Front ℕ). then_read r (λ q rest. got (f x q) rest)) (four_read q rest most)

value_read : (f : NodeId → Bool → Item) (x : NodeId) (b : Bool) (rest : List ℕ) → IsNumber x.0 → with_bit f (four x.0 ++ (one_byte b ∷ rest)) ≡ got (f x b) rest
value_read f x b rest le =
    ap (λ (r : Front ℕ). then_read r (λ n rest. then_read (read_bit rest) (λ b rest. got (f (node n) b) rest))) (four_read x.0 (one_byte b ∷ rest) le)
    ∙ ap (λ (r : Front Bool). then_read r (λ b rest. got (f x b) rest)) (bit_read b rest)

line_read : (l : Line) (rest : List ℕ) → IsItem (item.Line l) → read_item (item_bytes (item.Line l) ++ rest) ≡ got (item.Line l) rest
unfolding read_item
line_read line.Act rest h = refl
line_read line.Site rest h = refl
line_read (line.Chain y) rest h = node_read (λ x. item.Line (line.Chain x)) y rest h.0
line_read (line.Out y) rest h = node_read (λ x. item.Line (line.Out x)) y rest h.0
line_read (line.Constant y) rest h = node_read (λ x. item.Line (line.Constant x)) y rest h.0
line_read (line.GoodForward y) rest h = node_read (λ x. item.Line (line.GoodForward x)) y rest h.0
line_read (line.FaultyForward y) rest h = node_read (λ x. item.Line (line.FaultyForward x)) y rest h.0
line_read (line.GoodBack y q) rest h = pin_read (λ x q. item.Line (line.GoodBack x q)) y q rest h.0 h.1.0
line_read (line.FaultyBack y q) rest h = pin_read (λ x q. item.Line (line.FaultyBack x q)) y q rest h.0 h.1.0
line_read (line.Compare y) rest h = node_read (λ x. item.Line (line.Compare x)) y rest h.0
line_read (line.ToFaulty y) rest h = node_read (λ x. item.Line (line.ToFaulty x)) y rest h.0
line_read (line.ToGood y) rest h = node_read (λ x. item.Line (line.ToGood x)) y rest h.0
line_read (line.EqualForward y) rest h = node_read (λ x. item.Line (line.EqualForward x)) y rest h.0
line_read (line.NotDiffers y) rest h = node_read (λ x. item.Line (line.NotDiffers x)) y rest h.0
line_read (line.NotEqual y) rest h = node_read (λ x. item.Line (line.NotEqual x)) y rest h.0
line_read (line.DiffersBack y q) rest h = pin_read (λ x q. item.Line (line.DiffersBack x q)) y q rest h.0 h.1.0
line_read (line.Side y q) rest h = pin_read (λ x q. item.Line (line.Side x q)) y q rest h.0 h.1.0

pub one_read : (i : Item) (rest : List ℕ) → IsItem i → read_item (item_bytes i ++ rest) ≡ got i rest
unfolding read_item
one_read (item.Line l) rest h = line_read l rest h
one_read (item.Split x first) rest h = value_read (λ x b. item.Split x b) x first rest h
one_read (item.Clash x) rest h = node_read (λ x. item.Clash x) x rest h
one_read item.Quiet rest h = refl
one_read item.Here rest h = refl
one_read item.Untried rest h = refl

pub eight_read : (n : ℕ) (rest : List ℕ) → n < 2 ^ 64 → read_eight (eight n ++ rest) ≡ got n rest
eight_read n rest le = ap (λ (k : ℕ). got k rest) (from_le_bytes-to_le_bytes_8 n le)

-- each of some parts is read from its bytes
pub many_read : {A : Type 0} (read : List ℕ → Front A) (xb : A → List ℕ) (P : A → Type 0) → ((x : A) (rest : List ℕ) → P x → read (xb x ++ rest) ≡ got x rest) → (xs : List A) (rest : List ℕ) → AllByRecursion P xs
    → read_many read (length xs) (flat_map xb xs ++ rest) ≡ got xs rest
many_read read xb P h [] rest p = many_none read rest
many_read read xb P h (x ∷ xs) rest p =
    many_one read (length xs) (flat_map xb (x ∷ xs) ++ rest)
    ∙ ap (λ (bytes : List ℕ). then_read (read bytes) (λ a rest. then_read (read_many read (length xs) rest) (λ more rest. got (a ∷ more) rest))) (append_assoc (xb x) (flat_map xb xs) rest)
    ∙ ap (λ (r : Front _). then_read r (λ a rest. then_read (read_many read (length xs) rest) (λ more rest. got (a ∷ more) rest))) (h x (flat_map xb xs ++ rest) p.0)
    ∙ ap (λ (r : Front (List _)). then_read r (λ more rest. got (x ∷ more) rest)) (many_read read xb P h xs rest p.1)

counted_read : {A : Type 0} (read : List ℕ → Front A) (xb : A → List ℕ) (P : A → Type 0) → ((x : A) (rest : List ℕ) → P x → read (xb x ++ rest) ≡ got x rest) → (xs : List A) (rest : List ℕ) → xs ≢ [] → length xs < 2 ^ 64 → AllByRecursion P xs
    → then_read (read_count (counted xb xs ++ rest)) (λ n rest. read_many read n rest) ≡ got xs rest
counted_read read xb P h [] rest some le p = absurd (some refl)
counted_read read xb P h (x ∷ xs) rest some le p =
    ap (λ (r : Front ℕ). then_read (then_read r some_count) (λ n rest. read_many read n rest)) (eight_read (length (x ∷ xs)) (flat_map xb (x ∷ xs) ++ rest) le) ∙ many_read read xb P h (x ∷ xs) rest p

tree_read : (is : List Item) (rest : List ℕ) → is ≢ [] → length is < 2 ^ 64 → AreItems is → read_tree (counted item_bytes is ++ rest) ≡ got is rest
tree_read is rest some le p = counted_read read_item item_bytes IsItem one_read is rest some le p

abbrev IsAny : Bool → Type 0
IsAny b = Unit {0}

all_bits : (bits : List Bool) → AllByRecursion IsAny bits
all_bits [] = tt
all_bits (b ∷ bits) = (tt, all_bits bits)

vector_read : (bits : List Bool) (rest : List ℕ) → bits ≢ [] → length bits < 2 ^ 64 → read_vector (counted bit_bytes bits ++ rest) ≡ got bits rest
vector_read bits rest some le = counted_read read_bit bit_bytes IsAny (λ b rest p. bit_read b rest) bits rest some le (all_bits bits)

fault_read : (f : Fault) (rest : List ℕ) → IsFault f → read_fault (fault_bytes f ++ rest) ≡ got f rest
fault_read f rest p =
    ap (λ (r : Front ℕ). then_read r (λ gate rest. then_read (read_four rest) (λ position rest. then_read (read_bit rest) (λ value rest. got (record { gate = node gate; position = position; value = value }) rest))))
    (four_read f.gate.0 (four f.position ++ (one_byte f.value ∷ rest)) p.0)
    ∙ ap (λ (r : Front ℕ). then_read r (λ position rest. then_read (read_bit rest) (λ value rest. got (record { gate = f.gate; position = position; value = value }) rest))) (four_read f.position (one_byte f.value ∷ rest) p.1)
    ∙ ap (λ (r : Front Bool). then_read r (λ value rest. got (record { gate = f.gate; position = f.position; value = value }) rest)) (bit_read f.value rest)

-- RECORDS
one_step : (f : NodeId → Step) (x : NodeId) (tree : List Item) (rest : List ℕ) → IsNumber x.0 → tree ≡ [] → then_read (read_four (four x.0 ++ rest)) (λ n rest. got (kept.Step (f (node n)) []) rest) ≡ got (kept.Step (f x) tree) rest
one_step f x tree rest le none =
    ap (λ (r : Front ℕ). then_read r (λ n rest. got (kept.Step (f (node n)) []) rest)) (four_read x.0 rest le) ∙ ap (λ (t : List Item). got (kept.Step (f x) t) rest) (sym none)

two_step : (f : NodeId → ℕ → Step) (x : NodeId) (q : ℕ) (tree : List Item) (rest : List ℕ) → IsNumber x.0 → IsNumber q → tree ≡ []
    → then_read (read_four (four x.0 ++ (four q ++ rest))) (λ n rest. then_read (read_four rest) (λ q rest. got (kept.Step (f (node n) q) []) rest)) ≡ got (kept.Step (f x q) tree) rest
two_step f x q tree rest le most none =
    ap (λ (r : Front ℕ). then_read r (λ n rest. then_read (read_four rest) (λ q rest. got (kept.Step (f (node n) q) []) rest))) (four_read x.0 (four q ++ rest) le)
    ∙ ap (λ (r : Front ℕ). then_read r (λ q rest. got (kept.Step (f x q) []) rest)) (four_read q rest most) ∙ ap (λ (t : List Item). got (kept.Step (f x q) t) rest) (sym none)

with_tree : (f : Fault) (record_of : Fault → List Item → Record) (tree : List Item) (rest : List ℕ) → IsFault f → tree ≢ [] → length tree < 2 ^ 64 → AreItems tree
    → then_read (read_fault (fault_bytes f ++ (counted item_bytes tree ++ rest))) (λ f rest. then_read (read_tree rest) (λ tree rest. got (record_of f tree) rest)) ≡ got (record_of f tree) rest
with_tree f record_of tree rest p some le all =
    ap (λ (r : Front Fault). then_read r (λ f rest. then_read (read_tree rest) (λ tree rest. got (record_of f tree) rest))) (fault_read f (counted item_bytes tree ++ rest) p)
    ∙ ap (λ (r : Front (List Item)). then_read r (λ tree rest. got (record_of f tree) rest)) (tree_read tree rest some le all)

add_read : (x y : NodeId) (tree : List Item) (rest : List ℕ) → IsNumber x.0 → IsNumber y.0 → tree ≢ [] → length tree < 2 ^ 64 → AreItems tree
    → read_fields keyword.Add (four x.0 ++ (four y.0 ++ (counted item_bytes tree ++ rest))) ≡ got (kept.Step (step.Add x y) tree) rest
add_read x y tree rest le most some few all =
    ap (λ (r : Front ℕ). then_read r (λ gate rest. then_read (read_four rest) (λ driver rest. then_read (read_tree rest) (λ tree rest. got (kept.Step (step.Add (node gate) (node driver)) tree) rest))))
    (four_read x.0 (four y.0 ++ (counted item_bytes tree ++ rest)) le)
    ∙ ap (λ (r : Front ℕ). then_read r (λ driver rest. then_read (read_tree rest) (λ tree rest. got (kept.Step (step.Add x (node driver)) tree) rest))) (four_read y.0 (counted item_bytes tree ++ rest) most)
    ∙ ap (λ (r : Front (List Item)). then_read r (λ tree rest. got (kept.Step (step.Add x y) tree) rest)) (tree_read tree rest some few all)

hit_read : (f : Fault) (bits : List Bool) (rest : List ℕ) → IsFault f → bits ≢ [] → length bits < 2 ^ 64 → read_fields keyword.Hit (fault_bytes f ++ (counted bit_bytes bits ++ rest)) ≡ got (kept.Hit f bits) rest
hit_read f bits rest p some le =
    ap (λ (r : Front Fault). then_read r (λ f rest. then_read (read_vector rest) (λ vector rest. got (kept.Hit f vector) rest))) (fault_read f (counted bit_bytes bits ++ rest) p)
    ∙ ap (λ (r : Front (List Bool)). then_read r (λ vector rest. got (kept.Hit f vector) rest)) (vector_read bits rest some le)

pub record_read : (r : Record) (rest : List ℕ) → IsEntry (entry.Record r) → IsCounted r → read_record (record_bytes r ++ rest) ≡ got r rest
record_read (kept.Step (step.Add x y) tree) rest v few = record_is 1 _ ∙ add_read x y tree rest v.fits.0.0 v.fits.0.1 v.writable few v.fits.1
record_read (kept.Step (step.Fix x q b) tree) rest v few = record_is 2 _ ∙ with_tree (record { gate = x; position = q; value = b }) (λ f tree. kept.Step (step.Fix f.gate f.position f.value) tree) tree rest v.fits.0 v.writable few v.fits.1
record_read (kept.Step (step.NewNot x) tree) rest v few = record_is 3 _ ∙ one_step (λ x. step.NewNot x) x tree rest v.fits.0 v.writable
record_read (kept.Step (step.Const x q) tree) rest v few = record_is 4 _ ∙ two_step (λ x q. step.Const x q) x q tree rest v.fits.0.0 v.fits.0.1 v.writable
record_read (kept.Step (step.Same x q) tree) rest v few = record_is 5 _ ∙ two_step (λ x q. step.Same x q) x q tree rest v.fits.0.0 v.fits.0.1 v.writable
record_read (kept.Step (step.NoPins x) tree) rest v few = record_is 6 _ ∙ one_step (λ x. step.NoPins x) x tree rest v.fits.0 v.writable
record_read (kept.Step (step.OnePin x) tree) rest v few = record_is 7 _ ∙ one_step (λ x. step.OnePin x) x tree rest v.fits.0 v.writable
record_read (kept.Step (step.Twice x) tree) rest v few = record_is 8 _ ∙ one_step (λ x. step.Twice x) x tree rest v.fits.0 v.writable
record_read (kept.Step (step.Twin x y) tree) rest v few = record_is 9 _ ∙ two_step (λ x q. step.Twin x (node q)) x y.0 tree rest v.fits.0.0 v.fits.0.1 v.writable
record_read (kept.Step (step.Dead x) tree) rest v few = record_is 10 _ ∙ one_step (λ x. step.Dead x) x tree rest v.fits.0 v.writable
record_read (kept.Hit f bits) rest v few = record_is 11 _ ∙ hit_read f bits rest v.fits v.writable few
record_read (kept.Spent f tree) rest v few = record_is 12 _ ∙ with_tree f (λ f tree. kept.Spent f tree) tree rest v.fits.0 v.writable few v.fits.1

-- BODIES
abbrev IsGood : Record → Type 0
IsGood r = IsEntry (entry.Record r) × IsCounted r

good_records : (rs : List Record) (more : List Entry) → AreEntries (record_entries rs ++ more) → AllByRecursion IsCounted rs → AllByRecursion IsGood rs
good_records [] more v c = tt
good_records (r ∷ rs) more v c = ((v.0, c.0), good_records rs more v.1 c.1)

in_range_is : (budget : ℕ) (rest : List ℕ) → 1 ≤ budget → budget ≤ 1048576 → in_range budget rest ≡ got budget rest
in_range_is budget rest some most =
    let low : nat_le 1 budget ≡ true = le-leb 1 budget some in
    let high : nat_le budget 1048576 ≡ true = le-leb budget 1048576 most in
    ap (λ (p : Bool). if p && nat_le budget 1048576 then got budget rest else bad) low ∙ ap (λ (p : Bool). if p then got budget rest else bad) high

head_read : (budget count : ℕ) (rest : List ℕ) → 1 ≤ budget → budget ≤ 1048576 → count < 2 ^ 64 → read_head (four budget ++ (eight count ++ rest)) ≡ got (budget, count) rest
unfolding read_head
head_read budget count rest some most few =
    ap (λ (r : Front ℕ). then_read (then_read r in_range) (λ budget rest. then_read (read_eight rest) (λ count rest. got (budget, count) rest))) (four_read budget (eight count ++ rest) (omega arith))
    ∙ ap (λ (r : Front ℕ). then_read r (λ budget rest. then_read (read_eight rest) (λ count rest. got (budget, count) rest))) (in_range_is budget (eight count ++ rest) some most)
    ∙ ap (λ (r : Front ℕ). then_read r (λ count rest. got (budget, count) rest)) (eight_read count rest few)

pub body_read : (budget : ℕ) (records : List Record) → AreEntries (journal_entries budget records) → AllByRecursion IsCounted records → length records < 2 ^ 64 → IsBody (body_text budget records) budget records
body_read budget records v c few =
    let none : length records ≡ length records + 0 = omega arith in
    record {
      behind = flat_map record_bytes records;
      head = head_read budget (length records) (flat_map record_bytes records) v.0.writable.0 v.0.writable.1 few ∙ ap (λ (n : ℕ). got (budget, n) (flat_map record_bytes records)) none;
      read = ap (λ (bytes : List ℕ). read_many read_record (length records) bytes) (sym (append-nil (flat_map record_bytes records)))
          ∙ many_read read_record record_bytes IsGood (λ r rest p. record_read r rest p.0 p.1) records [] (good_records records (entry.End ∷ []) v.1 c);
    }
