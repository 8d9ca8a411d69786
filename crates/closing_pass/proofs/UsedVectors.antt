-- The kept vectors that findings have.
use Rattle.std.proofs.Common.{◌≡◌, ◌≢◌, ℕ, zero, suc, ◌+◌, ◌<◌, ◌≤◌, inl, inr, Bool, true, false, Some, List, [], ◌∷◌, ◌++◌, length, take, replicate, refl, sym, ◌∙◌, ap, arith}
use Rattle.std.specs.Prelude.{slice_get, slice_set}
use Rattle.std.proofs.lemmas.Bool.{cases_eq}
use Rattle.std.proofs.lemmas.List.{take_all}
use Rattle.std.proofs.lemmas.Option.{slice_get_within}
use Rattle.podem.specs.declared.verdict.Verdict.{Verdict}
use Rattle.podem.specs.declared.verdict.Verdict.TheVariants as verdict
use Rattle.rm_base.specs.declared.numbers.Fault.{Fault}
use Rattle.closing_pass.specs.Inner.Blocks.{AreKept}
use Rattle.closing_pass.specs.Inner.Findings.{AreLong, AreVerdictsOf, IsNumbered, IsVerdictOf}
use Rattle.closing_pass.specs.Inner.Used.{AreMarks, AreUsed, HasMarked, marked_of}
use Rattle.closing_pass.specs.declared.finding.Finding.{Finding}
use Rattle.closing_pass.specs.declared.finding.Finding.TheVariants.{Detected, Open, Spent}
use Rattle.closing_pass.proofs.Standing.{replicated}
use Rattle.closing_pass.proofs.Tries.{lt_or_le}
use Rattle.rm_base.proofs.Public.{one_stands, set_other, set_there, some_is, stands_below}

-- MARKS
-- the numbers of the first findings are marked
pub record AreMarksBefore (found : List Finding) (n : ℕ) (marks : List Bool) : Type 0 where
  pub each : (j number : ℕ) → j < n → slice_get found j ≡ Some (Detected number) → slice_get marks number ≡ Some true
  pub only : (number : ℕ) → slice_get marks number ≡ Some true → (j : ℕ) × (slice_get found j ≡ Some (Detected number))

pub marks_none : (found : List Finding) (count : ℕ) (marks : List Bool) → marks ≡ replicate count false → AreMarksBefore found 0 marks
marks_none found count marks is = record {
  each = λ j number lt there. absurd (omega (arith, lt));
  only = λ number on. let same : true ≡ false = replicated false true count number (rw is at on) in absurd (cc);
}

-- one more finding
pub marks_more :
    (found : List Finding) (n : ℕ) (finding : Finding) (marks marks' : List Bool) → slice_get found n ≡ Some finding → IsNumbered (length marks) finding → HasMarked finding marks marks' → AreMarksBefore found n marks
    → AreMarksBefore found (n + 1) marks'
marks_more found n Open marks marks' there numbered has before = absurd numbered
marks_more found n (Spent tree) marks marks' there numbered has before = record {
  each = λ j number lt is. elim (lt_or_le j n) [
    | inl less ↦ rw has (before.each j number less is)
    | inr le ↦
        let same : j ≡ n = omega (arith, lt, le) in
        let e : Spent tree ≡ Detected number = one_stands found n (Spent tree) (Detected number) there (rw same at is) in
        absurd (cc)
  ];
  only = λ number on. before.only number (rw has at on);
}
marks_more found n (Detected place) marks marks' there numbered has before = record {
  each = λ j number lt is. elim (cases_eq number place) [
    | inl same ↦ rw same marked
    | inr ne ↦ elim (lt_or_le j n) [
      | inl less ↦ elsewhere number ne ∙ before.each j number less is
      | inr le ↦
          let last : j ≡ n = omega (arith, lt, le) in
          let e : Detected place ≡ Detected number = one_stands found n (Detected place) (Detected number) there (rw last at is) in
          absurd (ne (cc))
    ]
  ];
  only = λ number on. elim (cases_eq number place) [
    | inl same ↦ (n, rw same there)
    | inr ne ↦ before.only number (sym (elsewhere number ne) ∙ on)
  ];
}
  where
    marked : slice_get marks' place ≡ Some true
    marked =
        let was : (b : Bool) × (slice_get marks place ≡ Some b) = stands_below marks place numbered in
        ap (λ (xs : List Bool). slice_get xs place) has ∙ set_there marks place was.0 true was.1

    elsewhere : (number : ℕ) → number ≢ place → slice_get marks' number ≡ slice_get marks number
    elsewhere number ne = ap (λ (xs : List Bool). slice_get xs number) has ∙ set_other marks place number true ne

pub marks_all : (found : List Finding) (n : ℕ) (marks : List Bool) → length found ≤ n → AreMarksBefore found n marks → AreMarks found marks
marks_all found n marks le before = record {
  each = λ j number is. let lt : j < length found = slice_get_within found j (Detected number) is in before.each j number (omega (arith, lt, le)) is;
  only = before.only;
}

-- a mark was set or none
pub size_marked : (finding : Finding) (marks marks' : List Bool) → HasMarked finding marks marks' → length marks' ≡ length marks
size_marked Open marks marks' has = ap length has
size_marked (Spent tree) marks marks' has = ap length has
size_marked (Detected place) marks marks' has = ap length has ∙ set_length marks place
  where
    set_length : (xs : List Bool) (k : ℕ) → length (slice_set xs k true) ≡ length xs
    set_length [] k = refl
    set_length (y ∷ xs) zero = refl
    set_length (y ∷ xs) (suc k) = ap suc (set_length xs k)

-- MARKED VECTORS
pub marked_more :
    (marks : List Bool) (vectors : List (List Bool)) (n : ℕ) (b : Bool) (v : List Bool) → slice_get marks n ≡ Some b → slice_get vectors n ≡ Some v
    → marked_of (take (n + 1) marks) (take (n + 1) vectors) ≡ marked_of (take n marks) (take n vectors) ++ marked_of (b ∷ []) (v ∷ [])
marked_more [] vectors n b v on there = absurd (cc)
marked_more (a ∷ marks) [] n b v on there = absurd (cc)
marked_more (a ∷ marks) (u ∷ vectors) zero b v on there =
    let same : a ≡ b = some_is a b on in
    let one : u ≡ v = some_is u v there in
    rw (same, one) refl
marked_more (true ∷ marks) (u ∷ vectors) (suc n) b v on there =
    let next : suc n + 1 ≡ suc (n + 1) = omega arith in
    rw next (ap (λ (xs : List (List Bool)). u ∷ xs) (marked_more marks vectors n b v on there))
marked_more (false ∷ marks) (u ∷ vectors) (suc n) b v on there =
    let next : suc n + 1 ≡ suc (n + 1) = omega arith in
    rw next (marked_more marks vectors n b v on there)

pub marked_all : (marks : List Bool) (vectors : List (List Bool)) (n : ℕ) → length marks ≡ length vectors → length vectors ≤ n → marked_of (take n marks) (take n vectors) ≡ marked_of marks vectors
marked_all marks vectors n size le =
    let first : take n marks ≡ marks = take_all n marks (omega (arith, size, le)) in
    let second : take n vectors ≡ vectors = take_all n vectors le in
    rw (first, second) refl

-- a vector with a mark is there
marked_has : (marks : List Bool) (vectors : List (List Bool)) (k : ℕ) (v : List Bool) → slice_get vectors k ≡ Some v → slice_get marks k ≡ Some true → (i : ℕ) × (slice_get (marked_of marks vectors) i ≡ Some v)
marked_has [] vectors k v there on = absurd (cc)
marked_has (a ∷ marks) [] k v there on = absurd (cc)
marked_has (true ∷ marks) (u ∷ vectors) zero v there on = (0, there)
marked_has (true ∷ marks) (u ∷ vectors) (suc k) v there on =
    let rest : (i : ℕ) × (slice_get (marked_of marks vectors) i ≡ Some v) = marked_has marks vectors k v there on in
    (suc rest.0, rest.1)
marked_has (false ∷ marks) (u ∷ vectors) zero v there on = absurd (cc)
marked_has (false ∷ marks) (u ∷ vectors) (suc k) v there on = marked_has marks vectors k v there on

-- and no others are
marked_was : (marks : List Bool) (vectors : List (List Bool)) (i : ℕ) (v : List Bool) → slice_get (marked_of marks vectors) i ≡ Some v → (k : ℕ) × (slice_get vectors k ≡ Some v)
marked_was [] vectors i v is = absurd (cc)
marked_was (a ∷ marks) [] i v is = absurd (cc)
marked_was (true ∷ marks) (u ∷ vectors) zero v is = (0, is)
marked_was (true ∷ marks) (u ∷ vectors) (suc i) v is =
    let rest : (k : ℕ) × (slice_get vectors k ≡ Some v) = marked_was marks vectors i v is in
    (suc rest.0, rest.1)
marked_was (false ∷ marks) (u ∷ vectors) i v is =
    let rest : (k : ℕ) × (slice_get vectors k ≡ Some v) = marked_was marks vectors i v is in
    (suc rest.0, rest.1)

-- USED VECTORS
-- the verdicts' vectors are among them
pub used_kept :
    (kept used : List (List Bool)) (faults : List Fault) (found : List Finding) (verdicts : List (Fault × Verdict)) → AreVerdictsOf kept faults found verdicts → AreUsed kept found used → AreKept used verdicts
used_kept kept used faults found verdicts of are j fault vector is =
    let f : (finding : Finding) × ((slice_get found j ≡ Some finding) × IsVerdictOf kept finding (verdict.Detected vector)) = of.verdicts_are j (fault, verdict.Detected vector) is in
    at f.0 f.1.0 f.1.1
  where
    at : (finding : Finding) → slice_get found j ≡ Some finding → IsVerdictOf kept finding (verdict.Detected vector) → (k : ℕ) × (slice_get used k ≡ Some vector)
    at Open has h = absurd h
    at (Detected number) has there =
        let k : (i : ℕ) × (slice_get (marked_of are.marks kept) i ≡ Some vector) = marked_has are.marks kept number vector there (are.marked.each j number has) in
        (k.0, ap (λ (xs : List (List Bool)). slice_get xs k.0) are.are ∙ k.1)
    at (Spent tree) has h = absurd h

-- and have as many values
pub used_long : (kept used : List (List Bool)) (found : List Finding) (count : ℕ) → AreUsed kept found used → AreLong kept count → AreLong used count
used_long kept used found count are long i v is =
    let k : (k : ℕ) × (slice_get kept k ≡ Some v) = marked_was are.marks kept i v (ap (λ (xs : List (List Bool)). slice_get xs i) (sym are.are) ∙ is) in
    long k.0 v k.1
