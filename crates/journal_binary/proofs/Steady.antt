-- What is read at a front stays as it is where more bytes follow.
use Rattle.std.proofs.Common.{◌≡◌, ◌≢◌, ℕ, zero, suc, Bool, true, false, List, [], ◌∷◌, ◌++◌, Option, Some, None, refl, ap, sym, ◌∙◌, append_assoc, ◌==◌, if◌then◌else◌, nat_le, ◌&&◌}
use Rattle.journal_text.specs.Letters.{all_letters}
use Rattle.journal_text.specs.declared.letters.Letter.{Letter}
use Rattle.journal_text.specs.declared.letters.Letter.TheVariants as letter
use Rattle.journal_text.specs.declared.keywords.Keyword.{Keyword}
use Rattle.journal_text.specs.declared.keywords.Keyword.TheVariants as keyword
use Rattle.journal_binary.specs.Fronts.{Front, bad, got, in_range, keyword_among, letter_among, read_behind, read_bit, read_count, read_eight, read_fault, read_fields, read_four, read_head, read_item, read_keyword, read_letter, read_many, read_record, read_tree, read_vector, record_keywords, short, some_count, then_read}
use Rattle.journal_binary.specs.Inner.Answers.{IsEndOf}
use Rattle.journal_binary.specs.Inner.Openings.{open_fields, open_keyword, read_opening}

-- the same part, with more bytes behind it
abbrev pub followed : {A : Type 0} → List ℕ → Front A → Front A
followed more (got a rest) = got a (rest ++ more)
followed more bad = bad
followed more short = short

abbrev pub rest_at : {A : Type 0} → Front A → List ℕ
rest_at (got a rest) = rest
rest_at bad = []
rest_at short = []

-- what is read is a front of the bytes, and stays where more follow
pub record Steady {A : Type 0} (read : List ℕ → Front A) : Type 0 where
  pub grows : (bytes more : List ℕ) → read bytes ≢ short → read (bytes ++ more) ≡ followed more (read bytes)
  pub ends : (bytes rest : List ℕ) (a : A) → read bytes ≡ got a rest → IsEndOf rest bytes

pub got_short : {A : Type 0} (x : Front A) (a : A) (rest : List ℕ) → x ≡ got a rest → x ≢ short
got_short (got b more) a rest e = λ f. cc
got_short bad a rest e = λ f. cc
got_short short a rest e = λ f. cc

pub got_bad : {A : Type 0} (x : Front A) (a : A) (rest : List ℕ) → x ≡ got a rest → x ≢ bad
got_bad (got b more) a rest e = λ f. cc
got_bad bad a rest e = λ f. cc
got_bad short a rest e = λ f. cc

pub bad_short : {A : Type 0} (x : Front A) → x ≡ bad → x ≢ short
bad_short (got b more) e = λ f. cc
bad_short bad e = λ f. cc
bad_short short e = λ f. cc

pub stays_got : {A : Type 0} (read : List ℕ → Front A) (bytes rest more : List ℕ) (a : A) → Steady read → read bytes ≡ got a rest → read (bytes ++ more) ≡ got a (rest ++ more)
stays_got read bytes rest more a s e = s.grows bytes more (got_short (read bytes) a rest e) ∙ ap (followed more) e

pub stays_bad : {A : Type 0} (read : List ℕ → Front A) (bytes more : List ℕ) → Steady read → read bytes ≡ bad → read (bytes ++ more) ≡ bad
stays_bad read bytes more s e = s.grows bytes more (bad_short (read bytes) e) ∙ ap (followed more) e

-- a part and then another
pub record ThenGot {A B : Type 0} (x : Front A) (f : A → List ℕ → Front B) (b : B) (rest : List ℕ) : Type 0 where
  pub value : A
  pub middle : List ℕ
  pub first : x ≡ got value middle
  pub second : f value middle ≡ got b rest

pub then_got : {A B : Type 0} (x : Front A) (f : A → List ℕ → Front B) (b : B) (rest : List ℕ) → then_read x f ≡ got b rest → ThenGot x f b rest
then_got (got a middle) f b rest e = record { value = a; middle = middle; first = refl; second = e }
then_got bad f b rest e = cc
then_got short f b rest e = cc

pub end_then : (bytes middle rest : List ℕ) → IsEndOf middle bytes → IsEndOf rest middle → IsEndOf rest bytes
end_then bytes middle rest a b = record {
  front = a.front ++ b.front;
  is = a.is ∙ ap (λ (xs : List ℕ). a.front ++ xs) b.is ∙ sym (append_assoc a.front b.front rest);
}

grow_case : {A B : Type 0} (read : List ℕ → Front A) (f : A → List ℕ → Front B) (bytes more : List ℕ) (x : Front A) → Steady read → ((a : A) → Steady (f a)) → read bytes ≡ x → then_read x f ≢ short
    → then_read (read (bytes ++ more)) f ≡ followed more (then_read x f)
grow_case read f bytes more (got a middle) s t e n = ap (λ (y : Front _). then_read y f) (stays_got read bytes middle more a s e) ∙ (t a).grows middle more n
grow_case read f bytes more bad s t e n = ap (λ (y : Front _). then_read y f) (stays_bad read bytes more s e)
grow_case read f bytes more short s t e n = absurd (n refl)

pub then_steady : {A B : Type 0} (read : List ℕ → Front A) (f : A → List ℕ → Front B) → Steady read → ((a : A) → Steady (f a)) → Steady (λ (bytes : List ℕ). then_read (read bytes) f)
then_steady read f s t = record {
  grows = λ bytes more n. grow_case read f bytes more (read bytes) s t refl n;
  ends = λ bytes rest b e. (let g = then_got (read bytes) f b rest e in end_then bytes g.middle rest (s.ends bytes g.middle g.value g.first) ((t g.value).ends g.middle rest b g.second));
}

pub got_steady : {A : Type 0} (a : A) → Steady (λ (rest : List ℕ). got a rest)
got_steady a = record { grows = λ bytes more n. refl; ends = λ bytes rest b e. record { front = []; is = ap rest_at e } }

pub bad_steady : {A : Type 0} → Steady {A = A} (λ (rest : List ℕ). bad)
bad_steady = record { grows = λ bytes more n. refl; ends = λ bytes rest b e. cc }

-- by the first byte
headed_grows : {A : Type 0} (read : List ℕ → Front A) (g : ℕ → List ℕ → Front A) (bytes more : List ℕ) → read [] ≡ short → ((b : ℕ) (bytes : List ℕ) → read (b ∷ bytes) ≡ g b bytes) → ((b : ℕ) → Steady (g b)) → read bytes ≢ short
    → read (bytes ++ more) ≡ followed more (read bytes)
headed_grows read g [] more none is s n = absurd (n none)
headed_grows read g (b ∷ bytes) more none is s n = is b (bytes ++ more) ∙ (s b).grows bytes more (λ e. n (is b bytes ∙ e)) ∙ ap (followed more) (sym (is b bytes))

headed_ends : {A : Type 0} (read : List ℕ → Front A) (g : ℕ → List ℕ → Front A) (bytes rest : List ℕ) (a : A) → read [] ≡ short → ((b : ℕ) (bytes : List ℕ) → read (b ∷ bytes) ≡ g b bytes) → ((b : ℕ) → Steady (g b)) → read bytes ≡ got a rest
    → IsEndOf rest bytes
headed_ends read g [] rest a none is s e = absurd (got_short (read []) a rest e none)
headed_ends read g (b ∷ bytes) rest a none is s e =
    let o : IsEndOf rest bytes = (s b).ends bytes rest a (sym (is b bytes) ∙ e) in
    record { front = b ∷ o.front; is = ap (λ (xs : List ℕ). b ∷ xs) o.is }

pub headed_steady : {A : Type 0} (read : List ℕ → Front A) (g : ℕ → List ℕ → Front A) → read [] ≡ short → ((b : ℕ) (bytes : List ℕ) → read (b ∷ bytes) ≡ g b bytes) → ((b : ℕ) → Steady (g b)) → Steady read
headed_steady read g none is s = record {
  grows = λ bytes more n. headed_grows read g bytes more none is s n;
  ends = λ bytes rest a e. headed_ends read g bytes rest a none is s e;
}

-- NUMBERS AND BITS
four_grows : (bytes more : List ℕ) → read_four bytes ≢ short → read_four (bytes ++ more) ≡ followed more (read_four bytes)
four_grows [] more n = absurd (n refl)
four_grows (a ∷ []) more n = absurd (n refl)
four_grows (a ∷ b ∷ []) more n = absurd (n refl)
four_grows (a ∷ b ∷ c ∷ []) more n = absurd (n refl)
four_grows (a ∷ b ∷ c ∷ d ∷ bytes) more n = refl

four_ends : (bytes rest : List ℕ) (v : ℕ) → read_four bytes ≡ got v rest → IsEndOf rest bytes
four_ends [] rest v e = cc
four_ends (a ∷ []) rest v e = cc
four_ends (a ∷ b ∷ []) rest v e = cc
four_ends (a ∷ b ∷ c ∷ []) rest v e = cc
four_ends (a ∷ b ∷ c ∷ d ∷ bytes) rest v e = record { front = a ∷ b ∷ c ∷ d ∷ []; is = ap (λ (x : Front ℕ). a ∷ b ∷ c ∷ d ∷ rest_at x) e }

pub four_steady : Steady read_four
four_steady = record { grows = four_grows; ends = four_ends }

eight_grows : (bytes more : List ℕ) → read_eight bytes ≢ short → read_eight (bytes ++ more) ≡ followed more (read_eight bytes)
eight_grows [] more n = absurd (n refl)
eight_grows (a ∷ []) more n = absurd (n refl)
eight_grows (a ∷ b ∷ []) more n = absurd (n refl)
eight_grows (a ∷ b ∷ c ∷ []) more n = absurd (n refl)
eight_grows (a ∷ b ∷ c ∷ d ∷ []) more n = absurd (n refl)
eight_grows (a ∷ b ∷ c ∷ d ∷ e ∷ []) more n = absurd (n refl)
eight_grows (a ∷ b ∷ c ∷ d ∷ e ∷ f ∷ []) more n = absurd (n refl)
eight_grows (a ∷ b ∷ c ∷ d ∷ e ∷ f ∷ g ∷ []) more n = absurd (n refl)
eight_grows (a ∷ b ∷ c ∷ d ∷ e ∷ f ∷ g ∷ h ∷ bytes) more n = refl

eight_ends : (bytes rest : List ℕ) (v : ℕ) → read_eight bytes ≡ got v rest → IsEndOf rest bytes
eight_ends [] rest v is = cc
eight_ends (a ∷ []) rest v is = cc
eight_ends (a ∷ b ∷ []) rest v is = cc
eight_ends (a ∷ b ∷ c ∷ []) rest v is = cc
eight_ends (a ∷ b ∷ c ∷ d ∷ []) rest v is = cc
eight_ends (a ∷ b ∷ c ∷ d ∷ e ∷ []) rest v is = cc
eight_ends (a ∷ b ∷ c ∷ d ∷ e ∷ f ∷ []) rest v is = cc
eight_ends (a ∷ b ∷ c ∷ d ∷ e ∷ f ∷ g ∷ []) rest v is = cc
eight_ends (a ∷ b ∷ c ∷ d ∷ e ∷ f ∷ g ∷ h ∷ bytes) rest v is = record {
  front = a ∷ b ∷ c ∷ d ∷ e ∷ f ∷ g ∷ h ∷ [];
  is = ap (λ (x : Front ℕ). a ∷ b ∷ c ∷ d ∷ e ∷ f ∷ g ∷ h ∷ rest_at x) is;
}

pub eight_steady : Steady read_eight
eight_steady = record { grows = eight_grows; ends = eight_ends }

abbrev bit_by : Bool → Bool → List ℕ → Front Bool
bit_by p q rest = if p then got false rest else (if q then got true rest else bad)

bit_by_steady : (p q : Bool) → Steady (bit_by p q)
bit_by_steady true q = got_steady false
bit_by_steady false true = got_steady true
bit_by_steady false false = bad_steady

pub bit_steady : Steady read_bit
bit_steady = headed_steady read_bit (λ b bytes. bit_by (b == 0) (b == 1) bytes) refl (λ b bytes. refl) (λ b. bit_by_steady (b == 0) (b == 1))

some_steady : (n : ℕ) → Steady (some_count n)
some_steady zero = bad_steady
some_steady (suc n) = got_steady (suc n)

pub count_steady : Steady read_count
count_steady = then_steady read_eight some_count eight_steady some_steady

pub fault_steady : Steady read_fault
fault_steady = then_steady read_four _ four_steady (λ gate. then_steady read_four _ four_steady (λ position. then_steady read_bit _ bit_steady (λ value. got_steady _)))

-- ITEMS
node_steady : {A : Type 0} (f : ℕ → A) → Steady (λ (bytes : List ℕ). then_read (read_four bytes) (λ n rest. got (f n) rest))
node_steady f = then_steady read_four (λ n rest. got (f n) rest) four_steady (λ n. got_steady (f n))

pin_steady : {A : Type 0} (f : ℕ → ℕ → A) → Steady (λ (bytes : List ℕ). then_read (read_four bytes) (λ n rest. then_read (read_four rest) (λ q rest. got (f n q) rest)))
pin_steady f = then_steady read_four (λ n rest. then_read (read_four rest) (λ q rest. got (f n q) rest)) four_steady (λ n. node_steady (f n))

split_steady : {A : Type 0} (f : ℕ → Bool → A) → Steady (λ (bytes : List ℕ). then_read (read_four bytes) (λ n rest. then_read (read_bit rest) (λ b rest. got (f n b) rest)))
split_steady f = then_steady read_four (λ n rest. then_read (read_bit rest) (λ b rest. got (f n b) rest)) four_steady (λ n. then_steady read_bit (λ b rest. got (f n b) rest) bit_steady (λ b. got_steady (f n b)))

behind_steady : (l : Letter) → Steady (read_behind l)
behind_steady letter.Act = got_steady _
behind_steady letter.Site = got_steady _
behind_steady letter.Chain = node_steady _
behind_steady letter.Out = node_steady _
behind_steady letter.Constant = node_steady _
behind_steady letter.GoodForward = node_steady _
behind_steady letter.FaultyForward = node_steady _
behind_steady letter.GoodBack = pin_steady _
behind_steady letter.FaultyBack = pin_steady _
behind_steady letter.Compare = node_steady _
behind_steady letter.ToFaulty = node_steady _
behind_steady letter.ToGood = node_steady _
behind_steady letter.EqualForward = node_steady _
behind_steady letter.NotDiffers = node_steady _
behind_steady letter.NotEqual = node_steady _
behind_steady letter.DiffersBack = pin_steady _
behind_steady letter.Side = pin_steady _
behind_steady letter.Split = split_steady _
behind_steady letter.Clash = node_steady _
behind_steady letter.Quiet = got_steady _
behind_steady letter.Here = got_steady _
behind_steady letter.Untried = got_steady _

letter_steady : (o : Option Letter) → Steady (read_letter o)
letter_steady None = bad_steady
letter_steady (Some l) = behind_steady l

pub item_none : read_item [] ≡ short
unfolding read_item
item_none = refl

pub item_is : (b : ℕ) (bytes : List ℕ) → read_item (b ∷ bytes) ≡ read_letter (letter_among all_letters b) bytes
unfolding read_item
item_is b bytes = refl

pub item_steady : Steady read_item
item_steady = headed_steady read_item (λ b bytes. read_letter (letter_among all_letters b) bytes) item_none item_is (λ b. letter_steady (letter_among all_letters b))

-- SO MANY PARTS
pub many_none : {A : Type 0} (read : List ℕ → Front A) (bytes : List ℕ) → read_many read 0 bytes ≡ got [] bytes
unfolding read_many
many_none read bytes = refl

pub many_one : {A : Type 0} (read : List ℕ → Front A) (n : ℕ) (bytes : List ℕ) → read_many read (suc n) bytes ≡ then_read (read bytes) (λ a rest. then_read (read_many read n rest) (λ more rest. got (a ∷ more) rest))
unfolding read_many
many_one read n bytes = refl

pub many_steady : {A : Type 0} (read : List ℕ → Front A) (n : ℕ) → Steady read → Steady (λ (bytes : List ℕ). read_many read n bytes)
unfolding read_many
many_steady read zero s = got_steady []
many_steady read (suc n) s =
    then_steady read (λ a rest. then_read (read_many read n rest) (λ more rest. got (a ∷ more) rest)) s
    (λ a. then_steady (λ (rest : List ℕ). read_many read n rest) (λ more rest. got (a ∷ more) rest) (many_steady read n s) (λ more. got_steady (a ∷ more)))

-- RECORDS
tree_steady : Steady read_tree
tree_steady = then_steady read_count _ count_steady (λ n. many_steady read_item n item_steady)

vector_steady : Steady read_vector
vector_steady = then_steady read_count _ count_steady (λ n. many_steady read_bit n bit_steady)

fields_steady : (k : Keyword) → Steady (read_fields k)
fields_steady keyword.Add = then_steady read_four _ four_steady (λ gate. then_steady read_four _ four_steady (λ driver. then_steady read_tree _ tree_steady (λ tree. got_steady _)))
fields_steady keyword.Fix = then_steady read_fault _ fault_steady (λ f. then_steady read_tree _ tree_steady (λ tree. got_steady _))
fields_steady keyword.NewNot = node_steady _
fields_steady keyword.Const = pin_steady _
fields_steady keyword.Same = pin_steady _
fields_steady keyword.NoPins = node_steady _
fields_steady keyword.OnePin = node_steady _
fields_steady keyword.Twice = node_steady _
fields_steady keyword.Twin = pin_steady _
fields_steady keyword.Dead = node_steady _
fields_steady keyword.Hit = then_steady read_fault _ fault_steady (λ f. then_steady read_vector _ vector_steady (λ vector. got_steady _))
fields_steady keyword.Spent = then_steady read_fault _ fault_steady (λ f. then_steady read_tree _ tree_steady (λ tree. got_steady _))
fields_steady keyword.Header = bad_steady
fields_steady keyword.End = bad_steady

pub keyword_steady : (o : Option Keyword) → Steady (read_keyword o)
keyword_steady None = bad_steady
keyword_steady (Some k) = fields_steady k

pub record_none : read_record [] ≡ short
unfolding read_record
record_none = refl

pub record_is : (b : ℕ) (bytes : List ℕ) → read_record (b ∷ bytes) ≡ read_keyword (keyword_among record_keywords b) bytes
unfolding read_record
record_is b bytes = refl

pub record_steady : Steady read_record
record_steady = headed_steady read_record (λ b bytes. read_keyword (keyword_among record_keywords b) bytes) record_none record_is (λ b. keyword_steady (keyword_among record_keywords b))

-- OPENINGS
open_fields_steady : (k : Keyword) → Steady (open_fields k)
open_fields_steady keyword.Add = then_steady read_four _ four_steady (λ gate. then_steady read_four _ four_steady (λ driver. then_steady read_count _ count_steady (λ n. got_steady _)))
open_fields_steady keyword.Fix = then_steady read_fault _ fault_steady (λ f. then_steady read_count _ count_steady (λ n. got_steady _))
open_fields_steady keyword.NewNot = node_steady _
open_fields_steady keyword.Const = pin_steady _
open_fields_steady keyword.Same = pin_steady _
open_fields_steady keyword.NoPins = node_steady _
open_fields_steady keyword.OnePin = node_steady _
open_fields_steady keyword.Twice = node_steady _
open_fields_steady keyword.Twin = pin_steady _
open_fields_steady keyword.Dead = node_steady _
open_fields_steady keyword.Hit = then_steady read_fault _ fault_steady (λ f. then_steady read_count _ count_steady (λ n. got_steady _))
open_fields_steady keyword.Spent = then_steady read_fault _ fault_steady (λ f. then_steady read_count _ count_steady (λ n. got_steady _))
open_fields_steady keyword.Header = bad_steady
open_fields_steady keyword.End = bad_steady

open_keyword_steady : (o : Option Keyword) → Steady (open_keyword o)
open_keyword_steady None = bad_steady
open_keyword_steady (Some k) = open_fields_steady k

pub opening_none : read_opening [] ≡ short
unfolding read_opening
opening_none = refl

pub opening_is : (b : ℕ) (bytes : List ℕ) → read_opening (b ∷ bytes) ≡ open_keyword (keyword_among record_keywords b) bytes
unfolding read_opening
opening_is b bytes = refl

pub opening_steady : Steady read_opening
opening_steady = headed_steady read_opening (λ b bytes. open_keyword (keyword_among record_keywords b) bytes) opening_none opening_is (λ b. open_keyword_steady (keyword_among record_keywords b))

-- THE HEAD
range_steady : {A : Type 0} (a : A) (p : Bool) → Steady (λ (rest : List ℕ). if p then got a rest else bad)
range_steady a true = got_steady a
range_steady a false = bad_steady

pub head_steady : Steady read_head
unfolding read_head
head_steady =
    then_steady (λ (bytes : List ℕ). then_read (read_four bytes) in_range) _ (then_steady read_four in_range four_steady (λ budget. range_steady budget (nat_le 1 budget && nat_le budget 1048576)))
    (λ budget. then_steady read_eight _ eight_steady (λ count. got_steady _))
