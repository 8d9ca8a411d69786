-- Vectors as words.
use Rattle.std.proofs.Common.{◌≡◌, ◌≢◌, ℕ, zero, suc, ◌+◌, ◌-◌, ◌<◌, ◌≤◌, ◌^◌, inl, inr, Bool, true, false, Some, List, [], ◌∷◌, ◌++◌, length, get_or, max, refl, sym, ◌∙◌, ap, subst, arith}
use Rattle.std.specs.Prelude.{bit_or, if◌then◌else◌, nat_eq, slice_get, slice_index, slice_index_or}
use Rattle.std.specs.Int.{bit_at}
use Rattle.std.proofs.lemmas.Nat.Bits.{bit_at-lt, bit_at-pow_same, bit_at-pow_other, bit_at_or}
use Rattle.std.proofs.lemmas.List.{length-append}
use Rattle.std.proofs.lemmas.Option.{get_or_from_slice_get, slice_get-get_or}
use Rattle.std.proofs.lemmas.Bool.{cases_eq}
use Rattle.fault_sim.proofs.Public.{lane_zero}
use Rattle.fault_sim.specs.Words.{lane}
use Rattle.closing_pass.specs.Inner.Findings.{AreLong, ArePacked}
use Rattle.closing_pass.specs.Inner.Trying.{AreInLanes}
use Rattle.closing_pass.proofs.Tries.{lt_or_le}
use Rattle.rm_base.proofs.Public.{pushed_stands, stands_below}

one_more : (b : ℕ) → b < 2 → max b 1 ≡ 1
one_more zero lt = refl
one_more (suc zero) lt = refl
one_more (suc (suc b)) lt = absurd (omega arith)

none_more : (b : ℕ) → b < 2 → max b 0 ≡ b
none_more zero lt = refl
none_more (suc zero) lt = refl
none_more (suc (suc b)) lt = absurd (omega arith)

lane_set_same : (w k : ℕ) → lane k (bit_or w (2 ^ k)) ≡ true
lane_set_same w k =
    let bit : bit_at (bit_or w (2 ^ k)) k ≡ 1 = bit_at_or w (2 ^ k) k ∙ ap (λ (n : ℕ). max (bit_at w k) n) (bit_at-pow_same k) ∙ one_more (bit_at w k) (bit_at-lt w k) in
    ap (λ (n : ℕ). nat_eq n 1) bit

lane_set_other : (w k i : ℕ) → i ≢ k → lane i (bit_or w (2 ^ k)) ≡ lane i w
lane_set_other w k i ne =
    let bit : bit_at (bit_or w (2 ^ k)) i ≡ bit_at w i = bit_at_or w (2 ^ k) i ∙ ap (λ (n : ℕ). max (bit_at w i) n) (bit_at-pow_other k i ne) ∙ none_more (bit_at w i) (bit_at-lt w i) in
    ap (λ (n : ℕ). nat_eq n 1) bit

-- the first bits are the values of a source in the first vectors, and all others are 0
pub record IsWordOf (vectors : List (List Bool)) (source place word : ℕ) : Type 0 where
  pub lanes : (i : ℕ) (v : List Bool) → i < place → slice_get vectors i ≡ Some v → lane i word ≡ slice_index_or v source false
  pub rest : (i : ℕ) → place ≤ i → lane i word ≡ false

pub word_none : (vectors : List (List Bool)) (source : ℕ) → IsWordOf vectors source 0 0
word_none vectors source = record { lanes = λ i v lt is. absurd (omega (arith, lt)); rest = λ i le. lane_zero i }

value_at : (v u : List Bool) (source : ℕ) (b : Bool) → Some v ≡ Some u → slice_get v source ≡ Some b → slice_index_or u source false ≡ b
value_at v u source b e is = let same : v ≡ u = cc in subst (λ (w : List Bool). slice_index_or w source false ≡ b) same (get_or_from_slice_get v source b false is)

pub word_one : (vectors : List (List Bool)) (source place word : ℕ) (v : List Bool) → IsWordOf vectors source place word → slice_get vectors place ≡ Some v → slice_get v source ≡ Some true → IsWordOf vectors source (place + 1) (bit_or word (2 ^ place))
word_one vectors source place word v of there is = record {
  lanes = λ i u lt us. elim (cases_eq i place) [
    | inl same ↦ rw same (lane_set_same word place ∙ sym (value_at v u source true (sym there ∙ rw same at us) is))
    | inr ne ↦ lane_set_other word place i ne ∙ of.lanes i u (below i lt ne) us
  ];
  rest = λ i le. lane_set_other word place i (λ e. absurd (omega (arith, le, e))) ∙ of.rest i (omega (arith, le));
}
  where
    below : (i : ℕ) → i < place + 1 → i ≢ place → i < place
    below i lt ne = elim (lt_or_le i place) [
      | inl l ↦ l
      | inr le ↦ absurd (ne (omega (arith, lt, le)))
    ]

pub word_zero : (vectors : List (List Bool)) (source place word : ℕ) (v : List Bool) → IsWordOf vectors source place word → slice_get vectors place ≡ Some v → slice_get v source ≡ Some false → IsWordOf vectors source (place + 1) word
word_zero vectors source place word v of there is = record {
  lanes = λ i u lt us. elim (lt_or_le i place) [
    | inl l ↦ of.lanes i u l us
    | inr le ↦ let same : i ≡ place = omega (arith, lt, le) in of.rest i le ∙ sym (value_at v u source false (sym there ∙ rw same at us) is)
  ];
  rest = λ i le. of.rest i (omega (arith, le));
}

pub word_more :
    (vectors : List (List Bool)) (source place word : ℕ) (v : List Bool) (b : Bool) → IsWordOf vectors source place word → slice_get vectors place ≡ Some v → slice_get v source ≡ Some b → IsWordOf vectors source (place + 1) (if b then bit_or word (2 ^ place) else word)
word_more vectors source place word v true of there is = word_one vectors source place word v of there is
word_more vectors source place word v false of there is = word_zero vectors source place word v of there is

-- the words of the first sources
pub record AreWordsOf (vectors : List (List Bool)) (count : ℕ) (words : List ℕ) : Type 0 where
  pub size : length words ≡ count
  pub each : (s w : ℕ) → slice_get words s ≡ Some w → (i : ℕ) (v : List Bool) → slice_get vectors i ≡ Some v → lane i w ≡ slice_index_or v s false

pub words_none : (vectors : List (List Bool)) → AreWordsOf vectors 0 []
words_none vectors = record { size = refl; each = λ s w e i v is. absurd (cc) }

pub words_more :
    (vectors : List (List Bool)) (count : ℕ) (words : List ℕ) (w : ℕ) → AreWordsOf vectors count words → ((i : ℕ) (v : List Bool) → slice_get vectors i ≡ Some v → lane i w ≡ slice_index_or v count false) → AreWordsOf vectors (count + 1) (words ++ w ∷ [])
words_more vectors count words w of is = record {
  size = let l = length-append words (w ∷ []) in omega (arith, l, of.size);
  each = λ s u us i v vs. elim (pushed_stands words w s u us) [
    | inl old ↦ of.each s u old i v vs
    | inr new ↦ let same : s ≡ count = omega (arith, new.0, of.size) in rw (same, new.1) (is i v vs)
  ];
}

past : {A : Type 0} (xs : List A) (i : ℕ) (d : A) → length xs ≤ i → get_or xs i d ≡ d
past [] i d le = refl
past (x ∷ xs) zero d le = absurd (omega (arith, le))
past (x ∷ xs) (suc i) d le = past xs i d (omega (arith, le))

pub words_packed : (vectors : List (List Bool)) (count : ℕ) (words : List ℕ) → AreLong vectors count → AreWordsOf vectors count words → ArePacked vectors words
words_packed vectors count words long of i v is x = elim (lt_or_le (x - 2) count) [
  | inl lt ↦ of.each (x - 2) (slice_index words (x - 2)) (slice_get-get_or words (x - 2) 0 (omega (arith, lt, of.size))) i v is
  | inr le ↦
      ap (lane i) (past words (x - 2) 0 (omega (arith, le, of.size))) ∙ lane_zero i ∙ sym (past v (x - 2) false (let l : length v ≡ count = long i v is in omega (arith, l, le)))
]

-- a part of the kept vectors in the lanes
pub lanes_are : (kept part : List (List Bool)) (first count : ℕ) (words : List ℕ) → ((i : ℕ) → i < count → slice_get part i ≡ slice_get kept (first + i)) → first + count ≤ length kept → ArePacked part words → AreInLanes kept first count words
lanes_are kept part first count words same fits packed i lt =
    let there : (v : List Bool) × (slice_get kept (first + i) ≡ Some v) = stands_below kept (first + i) (omega (arith, lt, fits)) in
    (there.0, (there.1, λ x. packed i there.0 (same i lt ∙ there.1) x))
