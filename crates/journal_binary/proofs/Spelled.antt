-- What is read are the bytes that are written.
use Rattle.std.proofs.Common.{◌≡◌, ◌≢◌, ℕ, zero, suc, ◌<◌, ◌≤◌, Bool, true, false, List, [], ◌∷◌, ◌++◌, Option, Some, None, get_or, length, refl, ap, sym, subst, ◌∙◌, append_assoc, arith, ◌==◌, if◌then◌else◌}
use Rattle.std.proofs.lemmas.Bool.{eqb-true}
use Rattle.std.specs.Int.{from_le_bytes, w32, w64}
use Rattle.std.specs.List.{AllByRecursion, flat_map}
use Rattle.std.proofs.lemmas.Nat.{le_bytes_4, le_bytes_8}
use Rattle.rm_base.proofs.Public.{some_is}
use Rattle.rm_base.specs.declared.numbers.Fault.{Fault}
use Rattle.rm_base.specs.declared.numbers.NodeId.{NodeId}
use Rattle.refutation.specs.declared.items.Item.{Item}
use Rattle.refutation.specs.declared.items.Item.TheVariants as item
use Rattle.refutation.specs.declared.reasoning.Line.TheVariants as line
use Rattle.wire_edit.specs.Order.{node}
use Rattle.wire_edit.specs.declared.steps.Step.{Step}
use Rattle.wire_edit.specs.declared.steps.Step.TheVariants as step
use Rattle.journal_text.specs.Letters.{all_letters}
use Rattle.journal_text.specs.Text.{Fits, IsEntry, IsFault, IsItem, IsNumber, IsWritableRecord, item_letter, step_keyword}
use Rattle.journal_text.specs.declared.letters.Letter.{Letter}
use Rattle.journal_text.specs.declared.letters.Letter.TheVariants as letter
use Rattle.journal_text.specs.declared.keywords.Keyword.{Keyword}
use Rattle.journal_text.specs.declared.keywords.Keyword.TheVariants as keyword
use Rattle.journal_text.specs.declared.record.Record.{Record}
use Rattle.journal_text.specs.declared.record.Record.TheVariants as kept
use Rattle.journal_text.specs.declared.record.Entry.TheVariants as entry
use Rattle.journal_binary.specs.Binary.{counted, eight, fault_bytes, four, item_bytes, item_rest, keyword_code, letter_code, one_byte, record_bytes, step_items, step_rest}
use Rattle.journal_binary.specs.Fronts.{Front, bad, got, keyword_among, letter_among, read_behind, read_bit, read_count, read_eight, read_fault, read_fields, read_four, read_item, read_keyword, read_letter, read_many, read_record, read_tree, read_vector, record_keywords, some_count, then_read}
use Rattle.journal_binary.specs.Laws.{AreBytes}
use Rattle.journal_binary.proofs.Steady.{got_short, item_is, item_none, many_none, many_one, record_is, record_none, rest_at, then_got}
use Rattle.journal_binary.proofs.Runs.{got_rest, got_value, many_length}

pub all_back : {A : Type 0} (P : A → Type 0) (xs ys : List A) → AllByRecursion P (xs ++ ys) → AllByRecursion P ys
all_back P [] ys h = h
all_back P (x ∷ xs) ys h = all_back P xs ys h.1

byte_at : (bytes : List ℕ) → AreBytes bytes → (i : ℕ) → get_or bytes i 0 < 256
byte_at [] h i = omega arith
byte_at (b ∷ bytes) h zero = h.0
byte_at (b ∷ bytes) h (suc i) = byte_at bytes h.1 i

-- the bytes begin with those of what is read
pub record Spells {A : Type 0} (bytes_of : A → List ℕ) (P : A → Type 0) (bytes rest : List ℕ) (a : A) : Type 0 where
  pub is : bytes ≡ bytes_of a ++ rest
  pub fits : P a

abbrev pub Spelled : {A : Type 0} → (List ℕ → Front A) → (A → List ℕ) → (A → Type 0) → Type 0
Spelled {A} read bytes_of P = (bytes rest : List ℕ) (a : A) → AreBytes bytes → read bytes ≡ got a rest → Spells bytes_of P bytes rest a

pub bytes_behind : {A : Type 0} (bytes_of : A → List ℕ) (P : A → Type 0) (bytes rest : List ℕ) (a : A) → AreBytes bytes → Spells bytes_of P bytes rest a → AreBytes rest
bytes_behind bytes_of P bytes rest a h s = all_back (λ (b : ℕ). b < 256) (bytes_of a) rest (subst AreBytes s.is h)

-- NUMBERS AND BITS
four_below : (bytes : List ℕ) (n : ℕ) → ((i : ℕ) → get_or bytes i 0 < 256) → (a b c d : ℕ) → bytes ≡ a ∷ b ∷ c ∷ d ∷ [] → n ≡ from_le_bytes w32 (a ∷ b ∷ c ∷ d ∷ []) → n ≤ 4294967295
four_below bytes n h a b c d e is =
    let p : a < 256 = subst (λ (xs : List ℕ). get_or xs 0 0 < 256) e (h 0) in
    let q : b < 256 = subst (λ (xs : List ℕ). get_or xs 1 0 < 256) e (h 1) in
    let r : c < 256 = subst (λ (xs : List ℕ). get_or xs 2 0 < 256) e (h 2) in
    let s : d < 256 = subst (λ (xs : List ℕ). get_or xs 3 0 < 256) e (h 3) in
    omega (arith, p, q, r, s, is)

four_by : (a b c d n : ℕ) (bytes rest : List ℕ) → AreBytes (a ∷ b ∷ c ∷ d ∷ []) → got (from_le_bytes w32 (a ∷ b ∷ c ∷ d ∷ [])) bytes ≡ got n rest → Spells four IsNumber (a ∷ b ∷ c ∷ d ∷ bytes) rest n
four_by a b c d n bytes rest h e =
    let value : n ≡ from_le_bytes w32 (a ∷ b ∷ c ∷ d ∷ []) = sym (got_value (from_le_bytes w32 (a ∷ b ∷ c ∷ d ∷ [])) n bytes rest e) in
    let fits : (i : ℕ) → get_or (a ∷ b ∷ c ∷ d ∷ []) i 0 < 256 = byte_at (a ∷ b ∷ c ∷ d ∷ []) h in
    record {
      is = ap (λ (xs : List ℕ). a ∷ b ∷ c ∷ d ∷ xs) (got_rest (from_le_bytes w32 (a ∷ b ∷ c ∷ d ∷ [])) n bytes rest e) ∙ ap (λ (xs : List ℕ). xs ++ rest) (sym (le_bytes_4 (a ∷ b ∷ c ∷ d ∷ []) n refl fits value));
      fits = four_below (a ∷ b ∷ c ∷ d ∷ []) n fits a b c d refl value;
    }

pub four_spelled : Spelled read_four four IsNumber
four_spelled [] rest n h e = cc
four_spelled (a ∷ []) rest n h e = cc
four_spelled (a ∷ b ∷ []) rest n h e = cc
four_spelled (a ∷ b ∷ c ∷ []) rest n h e = cc
four_spelled (a ∷ b ∷ c ∷ d ∷ bytes) rest n h e = four_by a b c d n bytes rest (h.0, (h.1.0, (h.1.1.0, (h.1.1.1.0, tt)))) e

abbrev pub IsAny : {A : Type 0} → A → Type 0
IsAny a = Unit {0}

pub eight_spelled : Spelled read_eight eight IsAny
eight_spelled [] rest n z is = cc
eight_spelled (a ∷ []) rest n z is = cc
eight_spelled (a ∷ b ∷ []) rest n z is = cc
eight_spelled (a ∷ b ∷ c ∷ []) rest n z is = cc
eight_spelled (a ∷ b ∷ c ∷ d ∷ []) rest n z is = cc
eight_spelled (a ∷ b ∷ c ∷ d ∷ e ∷ []) rest n z is = cc
eight_spelled (a ∷ b ∷ c ∷ d ∷ e ∷ f ∷ []) rest n z is = cc
eight_spelled (a ∷ b ∷ c ∷ d ∷ e ∷ f ∷ g ∷ []) rest n z is = cc
eight_spelled (a ∷ b ∷ c ∷ d ∷ e ∷ f ∷ g ∷ h ∷ bytes) rest n z is =
    let all : AreBytes (a ∷ b ∷ c ∷ d ∷ e ∷ f ∷ g ∷ h ∷ []) = (z.0, (z.1.0, (z.1.1.0, (z.1.1.1.0, (z.1.1.1.1.0, (z.1.1.1.1.1.0, (z.1.1.1.1.1.1.0, (z.1.1.1.1.1.1.1.0, tt)))))))) in
    record {
      is = ap (λ (xs : List ℕ). a ∷ b ∷ c ∷ d ∷ e ∷ f ∷ g ∷ h ∷ xs) (got_rest (from_le_bytes w64 (a ∷ b ∷ c ∷ d ∷ e ∷ f ∷ g ∷ h ∷ [])) n bytes rest is)
          ∙ ap (λ (xs : List ℕ). xs ++ rest) (sym (le_bytes_8 (a ∷ b ∷ c ∷ d ∷ e ∷ f ∷ g ∷ h ∷ []) n refl (byte_at (a ∷ b ∷ c ∷ d ∷ e ∷ f ∷ g ∷ h ∷ []) all) (sym (got_value (from_le_bytes w64 (a ∷ b ∷ c ∷ d ∷ e ∷ f ∷ g ∷ h ∷ [])) n bytes rest is))));
      fits = tt;
    }

abbrev pub bit_bytes : Bool → List ℕ
bit_bytes b = one_byte b ∷ []

bit_by : (b : ℕ) (bytes rest : List ℕ) (v p q : Bool) → ((p ≡ true) → b ≡ 0) → ((q ≡ true) → b ≡ 1) → (if p then got false bytes else (if q then got true bytes else bad)) ≡ got v rest → b ∷ bytes ≡ one_byte v ∷ rest
bit_by b bytes rest v true q h k e = ap (λ (x : ℕ). x ∷ bytes) (h refl) ∙ ap (λ (x : Front Bool). 0 ∷ rest_at x) e ∙ ap (λ (w : Bool). one_byte w ∷ rest) (got_value false v bytes rest e)
bit_by b bytes rest v false true h k e = ap (λ (x : ℕ). x ∷ bytes) (k refl) ∙ ap (λ (x : Front Bool). 1 ∷ rest_at x) e ∙ ap (λ (w : Bool). one_byte w ∷ rest) (got_value true v bytes rest e)
bit_by b bytes rest v false false h k e = cc

pub bit_spelled : Spelled read_bit bit_bytes IsAny
bit_spelled [] rest v h e = cc
bit_spelled (b ∷ bytes) rest v h e = record { is = bit_by b bytes rest v (b == 0) (b == 1) (eqb-true b 0) (eqb-true b 1) e; fits = tt }

-- ONE PART, AND TWO
pub map_spelled : {A C : Type 0} (read : List ℕ → Front A) (xb : A → List ℕ) (P : A → Type 0) (f : A → C) (whole : C → List ℕ) (R : C → Type 0) → Spelled read xb P → ((a : A) → P a → (whole (f a) ≡ xb a) × R (f a))
    → Spelled (λ (bytes : List ℕ). then_read (read bytes) (λ a rest. got (f a) rest)) whole R
map_spelled read xb P f whole R s h bytes rest c ok e =
    let g = then_got (read bytes) (λ a rest. got (f a) rest) c rest e in
    let at : Spells xb P bytes g.middle g.value = s bytes g.middle g.value ok g.first in
    let value : f g.value ≡ c = got_value (f g.value) c g.middle rest g.second in
    record {
      is = at.is ∙ ap (λ (xs : List ℕ). xb g.value ++ xs) (got_rest (f g.value) c g.middle rest g.second) ∙ ap (λ (xs : List ℕ). xs ++ rest) (sym (h g.value at.fits).0 ∙ ap whole value);
      fits = subst R value (h g.value at.fits).1;
    }

pub pair_spelled : {A B C : Type 0} (read : List ℕ → Front A) (behind : List ℕ → Front B) (xb : A → List ℕ) (yb : B → List ℕ) (P : A → Type 0) (Q : B → Type 0) (f : A → B → C) (whole : C → List ℕ) (R : C → Type 0) → Spelled read xb P → Spelled behind yb Q
    → ((a : A) (b : B) → P a → Q b → (whole (f a b) ≡ xb a ++ yb b) × R (f a b)) → Spelled (λ (bytes : List ℕ). then_read (read bytes) (λ a rest. then_read (behind rest) (λ b rest. got (f a b) rest))) whole R
pair_spelled read behind xb yb P Q f whole R s t h bytes rest c ok e =
    let g = then_got (read bytes) (λ a rest. then_read (behind rest) (λ b rest. got (f a b) rest)) c rest e in
    let at : Spells xb P bytes g.middle g.value = s bytes g.middle g.value ok g.first in
    let k = then_got (behind g.middle) (λ b rest. got (f g.value b) rest) c rest g.second in
    let after : Spells yb Q g.middle k.middle k.value = t g.middle k.middle k.value (bytes_behind xb P bytes g.middle g.value ok at) k.first in
    let value : f g.value k.value ≡ c = got_value (f g.value k.value) c k.middle rest k.second in
    record {
      is = at.is ∙ ap (λ (xs : List ℕ). xb g.value ++ xs) (after.is ∙ ap (λ (xs : List ℕ). yb k.value ++ xs) (got_rest (f g.value k.value) c k.middle rest k.second)) ∙ sym (append_assoc (xb g.value) (yb k.value) rest)
          ∙ ap (λ (xs : List ℕ). xs ++ rest) (sym (h g.value k.value at.fits after.fits).0 ∙ ap whole value);
      fits = subst R value (h g.value k.value at.fits after.fits).1;
    }

pub none_spelled : {C : Type 0} (c : C) (whole : C → List ℕ) (R : C → Type 0) → whole c ≡ [] → R c → Spelled (λ (bytes : List ℕ). got c bytes) whole R
none_spelled c whole R none fits bytes rest d ok e = record {
  is = got_rest c d bytes rest e ∙ ap (λ (xs : List ℕ). xs ++ rest) (sym none ∙ ap whole (got_value c d bytes rest e));
  fits = subst R (got_value c d bytes rest e) fits;
}

-- ITEMS
letter_case : (b : ℕ) (x l : Letter) (p : Bool) (other : Option Letter) → b == letter_code x ≡ p → (other ≡ Some l → b ≡ letter_code l) → (if p then Some x else other) ≡ Some l → b ≡ letter_code l
letter_case b x l true other t h e = eqb-true b (letter_code x) t ∙ ap letter_code (some_is x l e)
letter_case b x l false other t h e = h e

letter_told : (ls : List Letter) (b : ℕ) (l : Letter) → letter_among ls b ≡ Some l → b ≡ letter_code l
letter_told [] b l e = cc
letter_told (x ∷ ls) b l e = letter_case b x l (b == letter_code x) (letter_among ls b) refl (letter_told ls b l) e

abbrev OfLetter : Letter → Item → Type 0
OfLetter l i = (item_letter i ≡ l) × IsItem i

behind_spelled : (l : Letter) → Spelled (read_behind l) item_rest (OfLetter l)
behind_spelled letter.Act = none_spelled (item.Line line.Act) item_rest (OfLetter letter.Act) refl (refl, tt)
behind_spelled letter.Site = none_spelled (item.Line line.Site) item_rest (OfLetter letter.Site) refl (refl, tt)
behind_spelled letter.Chain = map_spelled read_four four IsNumber (λ n. item.Line (line.Chain (node n))) item_rest (OfLetter letter.Chain) four_spelled (λ n le. (refl, (refl, (le, tt))))
behind_spelled letter.Out = map_spelled read_four four IsNumber (λ n. item.Line (line.Out (node n))) item_rest (OfLetter letter.Out) four_spelled (λ n le. (refl, (refl, (le, tt))))
behind_spelled letter.Constant = map_spelled read_four four IsNumber (λ n. item.Line (line.Constant (node n))) item_rest (OfLetter letter.Constant) four_spelled (λ n le. (refl, (refl, (le, tt))))
behind_spelled letter.GoodForward = map_spelled read_four four IsNumber (λ n. item.Line (line.GoodForward (node n))) item_rest (OfLetter letter.GoodForward) four_spelled (λ n le. (refl, (refl, (le, tt))))
behind_spelled letter.FaultyForward = map_spelled read_four four IsNumber (λ n. item.Line (line.FaultyForward (node n))) item_rest (OfLetter letter.FaultyForward) four_spelled (λ n le. (refl, (refl, (le, tt))))
behind_spelled letter.GoodBack = pair_spelled read_four read_four four four IsNumber IsNumber (λ n q. item.Line (line.GoodBack (node n) q)) item_rest (OfLetter letter.GoodBack) four_spelled four_spelled (λ n q le most. (refl, (refl, (le, (most, tt)))))
behind_spelled letter.FaultyBack = pair_spelled read_four read_four four four IsNumber IsNumber (λ n q. item.Line (line.FaultyBack (node n) q)) item_rest (OfLetter letter.FaultyBack) four_spelled four_spelled (λ n q le most. (refl, (refl, (le, (most, tt)))))
behind_spelled letter.Compare = map_spelled read_four four IsNumber (λ n. item.Line (line.Compare (node n))) item_rest (OfLetter letter.Compare) four_spelled (λ n le. (refl, (refl, (le, tt))))
behind_spelled letter.ToFaulty = map_spelled read_four four IsNumber (λ n. item.Line (line.ToFaulty (node n))) item_rest (OfLetter letter.ToFaulty) four_spelled (λ n le. (refl, (refl, (le, tt))))
behind_spelled letter.ToGood = map_spelled read_four four IsNumber (λ n. item.Line (line.ToGood (node n))) item_rest (OfLetter letter.ToGood) four_spelled (λ n le. (refl, (refl, (le, tt))))
behind_spelled letter.EqualForward = map_spelled read_four four IsNumber (λ n. item.Line (line.EqualForward (node n))) item_rest (OfLetter letter.EqualForward) four_spelled (λ n le. (refl, (refl, (le, tt))))
behind_spelled letter.NotDiffers = map_spelled read_four four IsNumber (λ n. item.Line (line.NotDiffers (node n))) item_rest (OfLetter letter.NotDiffers) four_spelled (λ n le. (refl, (refl, (le, tt))))
behind_spelled letter.NotEqual = map_spelled read_four four IsNumber (λ n. item.Line (line.NotEqual (node n))) item_rest (OfLetter letter.NotEqual) four_spelled (λ n le. (refl, (refl, (le, tt))))
behind_spelled letter.DiffersBack = pair_spelled read_four read_four four four IsNumber IsNumber (λ n q. item.Line (line.DiffersBack (node n) q)) item_rest (OfLetter letter.DiffersBack) four_spelled four_spelled (λ n q le most. (refl, (refl, (le, (most, tt)))))
behind_spelled letter.Side = pair_spelled read_four read_four four four IsNumber IsNumber (λ n q. item.Line (line.Side (node n) q)) item_rest (OfLetter letter.Side) four_spelled four_spelled (λ n q le most. (refl, (refl, (le, (most, tt)))))
behind_spelled letter.Split = pair_spelled read_four read_bit four bit_bytes IsNumber IsAny (λ n b. item.Split (node n) b) item_rest (OfLetter letter.Split) four_spelled bit_spelled (λ n b le any. (refl, (refl, le)))
behind_spelled letter.Clash = map_spelled read_four four IsNumber (λ n. item.Clash (node n)) item_rest (OfLetter letter.Clash) four_spelled (λ n le. (refl, (refl, le)))
behind_spelled letter.Quiet = none_spelled item.Quiet item_rest (OfLetter letter.Quiet) refl (refl, tt)
behind_spelled letter.Here = none_spelled item.Here item_rest (OfLetter letter.Here) refl (refl, tt)
behind_spelled letter.Untried = none_spelled item.Untried item_rest (OfLetter letter.Untried) refl (refl, tt)

item_by : (b : ℕ) (bytes rest : List ℕ) (i : Item) (o : Option Letter) → letter_among all_letters b ≡ o → AreBytes bytes → read_letter o bytes ≡ got i rest → Spells item_bytes IsItem (b ∷ bytes) rest i
item_by b bytes rest i None told ok e = cc
item_by b bytes rest i (Some l) told ok e =
    let s : Spells item_rest (OfLetter l) bytes rest i = behind_spelled l bytes rest i ok e in
    record {
      is = ap (λ (k : ℕ). k ∷ bytes) (letter_told all_letters b l told ∙ ap letter_code (sym s.fits.0)) ∙ ap (λ (xs : List ℕ). letter_code (item_letter i) ∷ xs) s.is;
      fits = s.fits.1;
    }

pub item_spelled : Spelled read_item item_bytes IsItem
item_spelled [] rest i ok e = absurd (got_short (read_item []) i rest e item_none)
item_spelled (b ∷ bytes) rest i ok e = item_by b bytes rest i (letter_among all_letters b) refl ok.1 (sym (item_is b bytes) ∙ e)

-- SO MANY
pub many_spelled : {A : Type 0} (read : List ℕ → Front A) (xb : A → List ℕ) (P : A → Type 0) (n : ℕ) → Spelled read xb P → Spelled (λ (bytes : List ℕ). read_many read n bytes) (λ (xs : List A). flat_map xb xs) (λ (xs : List A). AllByRecursion P xs)
many_spelled read xb P zero s bytes rest xs ok e = none_spelled [] (λ (xs : List _). flat_map xb xs) (λ (xs : List _). AllByRecursion P xs) refl tt bytes rest xs ok (sym (many_none read bytes) ∙ e)
many_spelled read xb P (suc n) s bytes rest xs ok e =
    pair_spelled read (λ (rest : List ℕ). read_many read n rest) xb (λ (xs : List _). flat_map xb xs) P (λ (xs : List _). AllByRecursion P xs) (λ x xs. x ∷ xs) (λ (xs : List _). flat_map xb xs) (λ (xs : List _). AllByRecursion P xs)
    s (many_spelled read xb P n s) (λ x xs p ps. (refl, (p, ps))) bytes rest xs ok (sym (many_one read n bytes) ∙ e)

some_told : (v n : ℕ) (middle rest : List ℕ) → some_count v middle ≡ got n rest → (v ≡ n) × ((middle ≡ rest) × (n ≢ 0))
some_told zero n middle rest e = cc
some_told (suc v) n middle rest e =
    let is : suc v ≡ n = got_value (suc v) n middle rest e in
    (is, (got_rest (suc v) n middle rest e, λ z. omega (arith, is, z)))

abbrev pub IsSome : ℕ → Type 0
IsSome n = n ≢ 0

pub count_spelled : Spelled read_count eight IsSome
count_spelled bytes rest n ok e =
    let g = then_got (read_eight bytes) some_count n rest e in
    let at : Spells eight IsAny bytes g.middle g.value = eight_spelled bytes g.middle g.value ok g.first in
    let told : (g.value ≡ n) × ((g.middle ≡ rest) × (n ≢ 0)) = some_told g.value n g.middle rest g.second in
    record { is = at.is ∙ ap (λ (xs : List ℕ). eight g.value ++ xs) told.1.0 ∙ ap (λ (k : ℕ). eight k ++ rest) told.0; fits = told.1.1 }

-- some parts
abbrev pub AreSome : {A : Type 0} → (A → Type 0) → List A → Type 0
AreSome P xs = (xs ≢ []) × AllByRecursion P xs

none_length : {A : Type 0} (xs : List A) (n : ℕ) → length xs ≡ n → n ≢ 0 → xs ≢ []
none_length xs n e some f = some (sym e ∙ ap length f)

pub counted_some : {A : Type 0} (read : List ℕ → Front A) (bytes rest : List ℕ) (xs : List A) → then_read (read_count bytes) (λ n rest. read_many read n rest) ≡ got xs rest → xs ≢ []
counted_some read bytes rest xs e =
    let g = then_got (read_count bytes) (λ n rest. read_many read n rest) xs rest e in
    let k = then_got (read_eight bytes) some_count g.value g.middle g.first in
    none_length xs g.value (many_length read g.value g.middle rest xs g.second) (some_told k.value g.value k.middle g.middle k.second).1.1

pub counted_spelled : {A : Type 0} (read : List ℕ → Front A) (xb : A → List ℕ) (P : A → Type 0) → Spelled read xb P → Spelled (λ (bytes : List ℕ). then_read (read_count bytes) (λ n rest. read_many read n rest)) (λ (xs : List A). counted xb xs) (λ (xs : List A). AreSome P xs)
counted_spelled read xb P s bytes rest xs ok e =
    let g = then_got (read_count bytes) (λ n rest. read_many read n rest) xs rest e in
    let at : Spells eight IsSome bytes g.middle g.value = count_spelled bytes g.middle g.value ok g.first in
    let after : Spells (λ (xs : List _). flat_map xb xs) (λ (xs : List _). AllByRecursion P xs) g.middle rest xs = many_spelled read xb P g.value s g.middle rest xs (bytes_behind eight IsSome bytes g.middle g.value ok at) g.second in
    let size : length xs ≡ g.value = many_length read g.value g.middle rest xs g.second in
    record {
      is = at.is ∙ ap (λ (ys : List ℕ). eight g.value ++ ys) after.is ∙ ap (λ (n : ℕ). eight n ++ (flat_map xb xs ++ rest)) (sym size) ∙ sym (append_assoc (eight (length xs)) (flat_map xb xs) rest);
      fits = (none_length xs g.value size at.fits, after.fits);
    }

pub tree_spelled : Spelled read_tree (λ (is : List Item). counted item_bytes is) (λ (is : List Item). AreSome IsItem is)
tree_spelled = counted_spelled read_item item_bytes IsItem item_spelled

pub vector_spelled : Spelled read_vector (λ (bits : List Bool). counted bit_bytes bits) (λ (bits : List Bool). AreSome IsAny bits)
vector_spelled = counted_spelled read_bit bit_bytes IsAny bit_spelled

-- RECORDS
pub fault_spelled : Spelled read_fault fault_bytes IsFault
fault_spelled bytes rest f ok e =
    let g = then_got (read_four bytes) _ f rest e in
    let gate : Spells four IsNumber bytes g.middle g.value = four_spelled bytes g.middle g.value ok g.first in
    let ok2 : AreBytes g.middle = bytes_behind four IsNumber bytes g.middle g.value ok gate in
    let h = then_got (read_four g.middle) _ f rest g.second in
    let position : Spells four IsNumber g.middle h.middle h.value = four_spelled g.middle h.middle h.value ok2 h.first in
    let k = then_got (read_bit h.middle) _ f rest h.second in
    let value : Spells bit_bytes IsAny h.middle k.middle k.value = bit_spelled h.middle k.middle k.value (bytes_behind four IsNumber g.middle h.middle h.value ok2 position) k.first in
    let made : Fault = record { gate = node g.value; position = h.value; value = k.value } in
    let same : record { gate = node g.value; position = h.value; value = k.value } ≡ f = got_value (record { gate = node g.value; position = h.value; value = k.value }) f k.middle rest k.second in
    record {
      is = gate.is ∙ ap (λ (xs : List ℕ). four g.value ++ xs) (position.is ∙ ap (λ (xs : List ℕ). four h.value ++ xs) (value.is ∙ ap (λ (xs : List ℕ). one_byte k.value ∷ xs) (got_rest (record { gate = node g.value; position = h.value; value = k.value }) f k.middle rest k.second)))
          ∙ ap (λ (x : Fault). fault_bytes x ++ rest) same;
      fits = subst IsFault same (gate.fits, position.fits);
    }

abbrev pub key : Record → Keyword
key (kept.Step s tree) = step_keyword s
key (kept.Hit fault vector) = keyword.Hit
key (kept.Spent fault tree) = keyword.Spent

-- what stands behind the byte
abbrev pub fields : Record → List ℕ
fields (kept.Step s tree) = step_rest s ++ step_items s tree
fields (kept.Hit fault vector) = fault_bytes fault ++ counted (λ (b : Bool). one_byte b ∷ []) vector
fields (kept.Spent fault tree) = fault_bytes fault ++ counted item_bytes tree

pub record_parts : (r : Record) → record_bytes r ≡ keyword_code (key r) ∷ fields r
record_parts (kept.Step s tree) = refl
record_parts (kept.Hit fault vector) = refl
record_parts (kept.Spent fault tree) = refl

abbrev OfKey : Keyword → Record → Type 0
OfKey k r = (key r ≡ k) × Fits (entry.Record r)

one_field : (k : Keyword) (f : NodeId → Step) → ((n : ℕ) → IsNumber n → (step_rest (f (node n)) ++ step_items (f (node n)) [] ≡ four n) × OfKey k (kept.Step (f (node n)) []))
    → Spelled (λ (bytes : List ℕ). then_read (read_four bytes) (λ n rest. got (kept.Step (f (node n)) []) rest)) fields (OfKey k)
one_field k f h = map_spelled read_four four IsNumber (λ n. kept.Step (f (node n)) []) fields (OfKey k) four_spelled h

two_field : (k : Keyword) (f : NodeId → ℕ → Step) → ((n q : ℕ) → IsNumber n → IsNumber q → (step_rest (f (node n) q) ++ step_items (f (node n) q) [] ≡ four n ++ four q) × OfKey k (kept.Step (f (node n) q) []))
    → Spelled (λ (bytes : List ℕ). then_read (read_four bytes) (λ n rest. then_read (read_four rest) (λ q rest. got (kept.Step (f (node n) q) []) rest))) fields (OfKey k)
two_field k f h = pair_spelled read_four read_four four four IsNumber IsNumber (λ n q. kept.Step (f (node n) q) []) fields (OfKey k) four_spelled four_spelled h

add_spelled : Spelled (read_fields keyword.Add) fields (OfKey keyword.Add)
add_spelled bytes rest r ok e =
    let g = then_got (read_four bytes) _ r rest e in
    let gate : Spells four IsNumber bytes g.middle g.value = four_spelled bytes g.middle g.value ok g.first in
    let ok2 : AreBytes g.middle = bytes_behind four IsNumber bytes g.middle g.value ok gate in
    let h = then_got (read_four g.middle) _ r rest g.second in
    let driver : Spells four IsNumber g.middle h.middle h.value = four_spelled g.middle h.middle h.value ok2 h.first in
    let k = then_got (read_tree h.middle) _ r rest h.second in
    let tree : Spells (λ (is : List Item). counted item_bytes is) (λ (is : List Item). AreSome IsItem is) h.middle k.middle k.value = tree_spelled h.middle k.middle k.value (bytes_behind four IsNumber g.middle h.middle h.value ok2 driver) k.first in
    let same : kept.Step (step.Add (node g.value) (node h.value)) k.value ≡ r = got_value (kept.Step (step.Add (node g.value) (node h.value)) k.value) r k.middle rest k.second in
    record {
      is = gate.is ∙ ap (λ (xs : List ℕ). four g.value ++ xs) (driver.is ∙ ap (λ (xs : List ℕ). four h.value ++ xs) (tree.is ∙ ap (λ (xs : List ℕ). counted item_bytes k.value ++ xs) (got_rest (kept.Step (step.Add (node g.value) (node h.value)) k.value) r k.middle rest k.second)))
          ∙ ap (λ (x : Record). fields x ++ rest) same;
      fits = subst (OfKey keyword.Add) same (refl, ((gate.fits, driver.fits), tree.fits.1));
    }

fields_spelled : (k : Keyword) → Spelled (read_fields k) fields (OfKey k)
fields_spelled keyword.Add = add_spelled
fields_spelled keyword.Fix =
    pair_spelled read_fault read_tree fault_bytes (λ (is : List Item). counted item_bytes is) IsFault (λ (is : List Item). AreSome IsItem is) (λ f tree. kept.Step (step.Fix f.gate f.position f.value) tree) fields (OfKey keyword.Fix)
    fault_spelled tree_spelled (λ f tree p q. (refl, (refl, (p, q.1))))
fields_spelled keyword.NewNot = one_field keyword.NewNot (λ x. step.NewNot x) (λ n le. (refl, (refl, (le, tt))))
fields_spelled keyword.Const = two_field keyword.Const (λ x q. step.Const x q) (λ n q le most. (refl, (refl, ((le, most), tt))))
fields_spelled keyword.Same = two_field keyword.Same (λ x q. step.Same x q) (λ n q le most. (refl, (refl, ((le, most), tt))))
fields_spelled keyword.NoPins = one_field keyword.NoPins (λ x. step.NoPins x) (λ n le. (refl, (refl, (le, tt))))
fields_spelled keyword.OnePin = one_field keyword.OnePin (λ x. step.OnePin x) (λ n le. (refl, (refl, (le, tt))))
fields_spelled keyword.Twice = one_field keyword.Twice (λ x. step.Twice x) (λ n le. (refl, (refl, (le, tt))))
fields_spelled keyword.Twin = two_field keyword.Twin (λ x q. step.Twin x (node q)) (λ n q le most. (refl, (refl, ((le, most), tt))))
fields_spelled keyword.Dead = one_field keyword.Dead (λ x. step.Dead x) (λ n le. (refl, (refl, (le, tt))))
fields_spelled keyword.Hit =
    pair_spelled read_fault read_vector fault_bytes (λ (bits : List Bool). counted bit_bytes bits) IsFault (λ (bits : List Bool). AreSome IsAny bits) (λ f vector. kept.Hit f vector) fields (OfKey keyword.Hit)
    fault_spelled vector_spelled (λ f vector p q. (refl, (refl, p)))
fields_spelled keyword.Spent =
    pair_spelled read_fault read_tree fault_bytes (λ (is : List Item). counted item_bytes is) IsFault (λ (is : List Item). AreSome IsItem is) (λ f tree. kept.Spent f tree) fields (OfKey keyword.Spent)
    fault_spelled tree_spelled (λ f tree p q. (refl, (refl, (p, q.1))))
fields_spelled keyword.Header = λ bytes rest r ok e. cc
fields_spelled keyword.End = λ bytes rest r ok e. cc

keyword_case : (b : ℕ) (x l : Keyword) (p : Bool) (other : Option Keyword) → b == keyword_code x ≡ p → (other ≡ Some l → b ≡ keyword_code l) → (if p then Some x else other) ≡ Some l → b ≡ keyword_code l
keyword_case b x l true other t h e = eqb-true b (keyword_code x) t ∙ ap keyword_code (some_is x l e)
keyword_case b x l false other t h e = h e

keyword_told : (ks : List Keyword) (b : ℕ) (k : Keyword) → keyword_among ks b ≡ Some k → b ≡ keyword_code k
keyword_told [] b k e = cc
keyword_told (x ∷ ks) b k e = keyword_case b x k (b == keyword_code x) (keyword_among ks b) refl (keyword_told ks b k) e

-- WHAT IS READ CAN BE WRITTEN
map_written : {A : Type 0} (x : Front A) (f : A → Record) (r : Record) (rest : List ℕ) → ((a : A) → IsWritableRecord (f a)) → then_read x (λ a rest. got (f a) rest) ≡ got r rest → IsWritableRecord r
map_written x f r rest h e = let g = then_got x (λ a rest. got (f a) rest) r rest e in subst IsWritableRecord (got_value (f g.value) r g.middle rest g.second) (h g.value)

pair_written : {A B : Type 0} (x : Front A) (behind : List ℕ → Front B) (f : A → B → Record) (r : Record) (rest : List ℕ) → ((a : A) (b : B) (bytes rest : List ℕ) → behind bytes ≡ got b rest → IsWritableRecord (f a b))
    → then_read x (λ a rest. then_read (behind rest) (λ b rest. got (f a b) rest)) ≡ got r rest → IsWritableRecord r
pair_written x behind f r rest h e =
    let g = then_got x (λ a rest. then_read (behind rest) (λ b rest. got (f a b) rest)) r rest e in
    let k = then_got (behind g.middle) (λ b rest. got (f g.value b) rest) r rest g.second in
    subst IsWritableRecord (got_value (f g.value k.value) r k.middle rest k.second) (h g.value k.value g.middle k.middle k.first)

fields_written : (k : Keyword) (bytes rest : List ℕ) (r : Record) → read_fields k bytes ≡ got r rest → IsWritableRecord r
fields_written keyword.Add bytes rest r e =
    let g = then_got (read_four bytes) _ r rest e in
    pair_written (read_four g.middle) read_tree (λ driver tree. kept.Step (step.Add (node g.value) (node driver)) tree) r rest (λ a tree bytes rest h. counted_some read_item bytes rest tree h) g.second
fields_written keyword.Fix bytes rest r e = pair_written (read_fault bytes) read_tree (λ f tree. kept.Step (step.Fix f.gate f.position f.value) tree) r rest (λ f tree bytes rest h. counted_some read_item bytes rest tree h) e
fields_written keyword.NewNot bytes rest r e = map_written (read_four bytes) (λ n. kept.Step (step.NewNot (node n)) []) r rest (λ n. refl) e
fields_written keyword.Const bytes rest r e = pair_written (read_four bytes) read_four (λ n q. kept.Step (step.Const (node n) q) []) r rest (λ n q bytes rest h. refl) e
fields_written keyword.Same bytes rest r e = pair_written (read_four bytes) read_four (λ n q. kept.Step (step.Same (node n) q) []) r rest (λ n q bytes rest h. refl) e
fields_written keyword.NoPins bytes rest r e = map_written (read_four bytes) (λ n. kept.Step (step.NoPins (node n)) []) r rest (λ n. refl) e
fields_written keyword.OnePin bytes rest r e = map_written (read_four bytes) (λ n. kept.Step (step.OnePin (node n)) []) r rest (λ n. refl) e
fields_written keyword.Twice bytes rest r e = map_written (read_four bytes) (λ n. kept.Step (step.Twice (node n)) []) r rest (λ n. refl) e
fields_written keyword.Twin bytes rest r e = pair_written (read_four bytes) read_four (λ n q. kept.Step (step.Twin (node n) (node q)) []) r rest (λ n q bytes rest h. refl) e
fields_written keyword.Dead bytes rest r e = map_written (read_four bytes) (λ n. kept.Step (step.Dead (node n)) []) r rest (λ n. refl) e
fields_written keyword.Hit bytes rest r e = pair_written (read_fault bytes) read_vector (λ f vector. kept.Hit f vector) r rest (λ f vector bytes rest h. counted_some read_bit bytes rest vector h) e
fields_written keyword.Spent bytes rest r e = pair_written (read_fault bytes) read_tree (λ f tree. kept.Spent f tree) r rest (λ f tree bytes rest h. counted_some read_item bytes rest tree h) e
fields_written keyword.Header bytes rest r e = cc
fields_written keyword.End bytes rest r e = cc

keyword_written : (o : Option Keyword) (bytes rest : List ℕ) (r : Record) → read_keyword o bytes ≡ got r rest → IsWritableRecord r
keyword_written None bytes rest r e = cc
keyword_written (Some k) bytes rest r e = fields_written k bytes rest r e

pub record_written : (bytes rest : List ℕ) (r : Record) → read_record bytes ≡ got r rest → IsWritableRecord r
record_written [] rest r e = absurd (got_short (read_record []) r rest e record_none)
record_written (b ∷ bytes) rest r e = keyword_written (keyword_among record_keywords b) bytes rest r (sym (record_is b bytes) ∙ e)

record_by : (b : ℕ) (bytes rest : List ℕ) (r : Record) (o : Option Keyword) → keyword_among record_keywords b ≡ o → AreBytes bytes → read_keyword o bytes ≡ got r rest → Spells record_bytes (λ (r : Record). IsEntry (entry.Record r)) (b ∷ bytes) rest r
record_by b bytes rest r None told ok e = cc
record_by b bytes rest r (Some k) told ok e =
    let s : Spells fields (OfKey k) bytes rest r = fields_spelled k bytes rest r ok e in
    record {
      is = ap (λ (c : ℕ). c ∷ bytes) (keyword_told record_keywords b k told ∙ ap keyword_code (sym s.fits.0)) ∙ ap (λ (xs : List ℕ). keyword_code (key r) ∷ xs) s.is ∙ ap (λ (xs : List ℕ). xs ++ rest) (sym (record_parts r));
      fits = record { writable = fields_written k bytes rest r e; fits = s.fits.1 };
    }

pub record_spelled : Spelled read_record record_bytes (λ (r : Record). IsEntry (entry.Record r))
record_spelled [] rest r ok e = absurd (got_short (read_record []) r rest e record_none)
record_spelled (b ∷ bytes) rest r ok e = record_by b bytes rest r (keyword_among record_keywords b) refl ok.1 (sym (record_is b bytes) ∙ e)
