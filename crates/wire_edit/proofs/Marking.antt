-- Marks by number.
use Rattle.std.proofs.Common.{◌≡◌, ◌≢◌, ℕ, zero, suc, ◌+◌, ◌<◌, ◌≤◌, Bool, true, false, inl, inr, List, [], ◌∷◌, length, refl, ◌∙◌, ap, arith}
use Rattle.std.specs.Prelude.{replicate, get_or, set}
use Rattle.std.proofs.lemmas.Bool.{cases_eq, cases_lt}
use Rattle.wire_edit.specs.Inner.Marked.{is_marked, marks_left, KeepsMarks}
use Rattle.rm_base.specs.Numbers.{one_if}

pub marked_all : (b : Bool) (n k : ℕ) → k < n → is_marked (replicate n b) k ≡ b
marked_all b zero k lt = absurd (omega (arith, lt))
marked_all b (suc n) zero lt = refl
marked_all b (suc n) (suc k) lt = marked_all b n k (omega (arith, lt))

pub marked_is : (bs : List Bool) (k : ℕ) (d : Bool) → k < length bs → get_or bs k d ≡ is_marked bs k
marked_is [] k d lt = absurd (omega (arith, lt))
marked_is (b ∷ bs) zero d lt = refl
marked_is (b ∷ bs) (suc k) d lt = marked_is bs k d (omega (arith, lt))

pub marked_beyond : (bs : List Bool) (k : ℕ) → length bs ≤ k → is_marked bs k ≡ false
marked_beyond [] k le = refl
marked_beyond (b ∷ bs) zero le = absurd (omega (arith, le))
marked_beyond (b ∷ bs) (suc k) le = marked_beyond bs k (omega (arith, le))

pub marked_within : (bs : List Bool) (k : ℕ) → is_marked bs k ≡ true → k < length bs
marked_within [] k e = cc
marked_within (b ∷ bs) zero e = omega arith
marked_within (b ∷ bs) (suc k) e = let rest : k < length bs = marked_within bs k e in omega (arith, rest)

pub set_marked : (bs : List Bool) (k : ℕ) (b : Bool) → k < length bs → is_marked (set bs k b) k ≡ b
set_marked [] k b lt = absurd (omega (arith, lt))
set_marked (c ∷ bs) zero b lt = refl
set_marked (c ∷ bs) (suc k) b lt = set_marked bs k b (omega (arith, lt))

pub set_other_mark : (bs : List Bool) (k j : ℕ) (b : Bool) → j ≢ k → is_marked (set bs k b) j ≡ is_marked bs j
set_other_mark [] k j b ne = refl
set_other_mark (c ∷ bs) zero zero b ne = absurd (ne refl)
set_other_mark (c ∷ bs) zero (suc j) b ne = refl
set_other_mark (c ∷ bs) (suc k) zero b ne = refl
set_other_mark (c ∷ bs) (suc k) (suc j) b ne = set_other_mark bs k j b (λ e. ne (ap suc e))

pub set_count : (bs : List Bool) (k : ℕ) (b : Bool) → length (set bs k b) ≡ length bs
set_count [] k b = refl
set_count (c ∷ bs) zero b = refl
set_count (c ∷ bs) (suc k) b = ap suc (set_count bs k b)

pub set_keeps : (bs : List Bool) (k : ℕ) → k < length bs → KeepsMarks bs (set bs k true)
set_keeps bs k lt = record {
  count = set_count bs k true;
  kept = λ j e. elim (cases_eq j k) [ inl is ↦ ap (is_marked (set bs k true)) is ∙ set_marked bs k true lt | inr ne ↦ set_other_mark bs k j true ne ∙ e ];
}

pub clear_fewer : (bs : List Bool) (k : ℕ) → is_marked bs k ≡ true → marks_left (set bs k false) + 1 ≡ marks_left bs
clear_fewer [] k e = cc
clear_fewer (b ∷ bs) zero e = let is : one_if b ≡ 1 = ap one_if e in omega (arith, is)
clear_fewer (b ∷ bs) (suc k) e = let rest : marks_left (set bs k false) + 1 ≡ marks_left bs = clear_fewer bs k e in omega (arith, rest)

-- no mark below a number, and none there
pub none_next : (bs : List Bool) (n : ℕ) → ((k : ℕ) → k < n → is_marked bs k ≡ false) → is_marked bs n ≡ false → (k : ℕ) → k < n + 1 → is_marked bs k ≡ false
none_next bs n h e k lt = elim (cases_eq k n) [ inl is ↦ ap (is_marked bs) is ∙ e | inr ne ↦ h k (omega (arith, lt, ne)) ]

-- no mark below the lower one of two
pub none_below : (bs : List Bool) (n place : ℕ) → ((k : ℕ) → k < n → is_marked bs k ≡ false) → place ≤ n → (k : ℕ) → k < place → is_marked (set bs place true) k ≡ false
none_below bs n place h le k lt = set_other_mark bs place k true (λ e. omega (arith, lt, e)) ∙ h k (omega (arith, lt, le))

pub none_all : (bs : List Bool) (n : ℕ) → ((k : ℕ) → k < n → is_marked bs k ≡ false) → length bs ≤ n → (k : ℕ) → is_marked bs k ≡ false
none_all bs n h le k = elim (cases_lt k n) [ inl lt ↦ h k lt | inr above ↦ marked_beyond bs k (omega (arith, le, above)) ]

pub clear_none : (bs : List Bool) (n x : ℕ) → ((k : ℕ) → k < n → is_marked bs k ≡ false) → (k : ℕ) → k < n → is_marked (set bs x false) k ≡ false
clear_none bs n x h k lt = elim (cases_eq k x) [
  | inl is ↦ ap (is_marked (set bs x false)) is ∙ at bs x
  | inr ne ↦ set_other_mark bs x k false ne ∙ h k lt
]
  where
    at : (bs : List Bool) (x : ℕ) → is_marked (set bs x false) x ≡ false
    at [] x = refl
    at (b ∷ bs) zero = refl
    at (b ∷ bs) (suc x) = at bs x

pub few : (bs : List Bool) (k : ℕ) (b : Bool) → length bs ≤ 4294967295 → length (set bs k b) ≤ 4294967295
few bs k b le = rw (set_count bs k b) le

pub blank_all : (n k : ℕ) → is_marked (replicate n false) k ≡ false
blank_all zero k = refl
blank_all (suc n) zero = refl
blank_all (suc n) (suc k) = blank_all n k
