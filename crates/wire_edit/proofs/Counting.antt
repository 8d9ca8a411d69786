-- Counts of numbers that pass a test, and of free pins.
use Rattle.std.proofs.Common.{◌≡◌, ◌≢◌, ℕ, zero, suc, ◌+◌, ◌<◌, ◌≤◌, Bool, true, false, ◌⊎◌, inl, inr, Some, List, [], ◌∷◌, ◌++◌, length, map, refl, ◌∙◌, ap, arith}
use Rattle.std.specs.Prelude.{slice_get, slice_set, nat_lt, nat_eq, if◌then◌else◌}
use Rattle.std.specs.List.{sum_by}
use Rattle.std.proofs.lemmas.Bool.{lt-ltb, cases_eq}
use Rattle.std.proofs.lemmas.Bool.Decides.{eqb_tells}
use Rattle.std.proofs.lemmas.List.Sums.{sum_by-cons}
use Rattle.gate_net.specs.Edits.{without, redirected}
use Rattle.wire_edit.specs.Work.{free_in, count_from}
use Rattle.rm_base.specs.Numbers.{one_if}

pub at_most_one : (b : Bool) → one_if b ≤ 1
at_most_one true = omega arith
at_most_one false = omega arith

one_le : (b c : Bool) → (b ≡ true → c ≡ true) → one_if b ≤ one_if c
one_le true c h = rw (h refl) (omega arith)
one_le false c h = omega arith

pub count_mono : (t u : ℕ → Bool) (k n : ℕ) → ((x : ℕ) → t x ≡ true → u x ≡ true) → count_from k n t ≤ count_from k n u
count_mono t u k zero h = omega arith
count_mono t u k (suc n) h =
    let rest : count_from (suc k) n t ≤ count_from (suc k) n u = count_mono t u (suc k) n h in
    let here : one_if (t k) ≤ one_if (u k) = one_le (t k) (u k) (h k) in
    omega arith

-- the count falls where one more number fails
pub count_strict : (t u : ℕ → Bool) (k n x : ℕ) → k ≤ x → x < k + n → t x ≡ false → u x ≡ true → ((y : ℕ) → t y ≡ true → u y ≡ true) → count_from k n t + 1 ≤ count_from k n u
count_strict t u k zero x le lt fails passes h = absurd (omega (arith, le, lt))
count_strict t u k (suc n) x le lt fails passes h = elim (cases_eq k x) [
  | inl is ↦
      let rest : count_from (suc k) n t ≤ count_from (suc k) n u = count_mono t u (suc k) n h in
      let a : one_if (t k) ≡ 0 = ap one_if (ap t is ∙ fails) in
      let b : one_if (u k) ≡ 1 = ap one_if (ap u is ∙ passes) in
      omega arith
  | inr ne ↦
      let rest : count_from (suc k) n t + 1 ≤ count_from (suc k) n u = count_strict t u (suc k) n x (omega (arith, le, ne)) (omega (arith, lt)) fails passes h in
      let here : one_if (t k) ≤ one_if (u k) = one_le (t k) (u k) (h k) in
      omega arith
]

-- the count rises by at most one where one number more may pass
pub count_more : (t u : ℕ → Bool) (k n x : ℕ) → ((y : ℕ) → t y ≡ true → (u y ≡ true) ⊎ (y ≡ x)) → count_from k n t ≤ count_from k n u + 1
count_more t u k zero x h = omega arith
count_more t u k (suc n) x h = elim (cases_eq k x) [
  | inl is ↦
      let rest : count_from (suc k) n t ≤ count_from (suc k) n u = later (suc k) n (omega (arith, is)) in
      let a : one_if (t k) ≤ 1 = at_most_one (t k) in
      omega arith
  | inr ne ↦
      let rest : count_from (suc k) n t ≤ count_from (suc k) n u + 1 = count_more t u (suc k) n x h in
      let here : one_if (t k) ≤ one_if (u k) = one_le (t k) (u k) (λ e. elim (h k e) [ inl same ↦ same | inr is ↦ absurd (ne is) ]) in
      omega arith
]
  where
    later : (j m : ℕ) → x < j → count_from j m t ≤ count_from j m u
    later j zero lt = omega arith
    later j (suc m) lt =
        let rest : count_from (suc j) m t ≤ count_from (suc j) m u = later (suc j) m (omega (arith, lt)) in
        let here : one_if (t j) ≤ one_if (u j) = one_le (t j) (u j) (λ e. elim (h j e) [ inl same ↦ same | inr is ↦ absurd (omega (arith, lt, is)) ]) in
        omega arith

-- numbers that fail add nothing
pub count_beyond : (t : ℕ → Bool) (k n m : ℕ) → ((x : ℕ) → k + n ≤ x → t x ≡ false) → count_from k (n + m) t ≡ count_from k n t
count_beyond t k zero m h = let e : 0 + m ≡ m = omega arith in ap (λ j. count_from k j t) e ∙ none k m (omega arith)
  where
    none : (j m : ℕ) → k + 0 ≤ j → count_from j m t ≡ 0
    none j zero le = refl
    none j (suc m) le =
        let here : one_if (t j) ≡ 0 = ap one_if (h j le) in
        let rest : count_from (suc j) m t ≡ 0 = none (suc j) m (omega (arith, le)) in
        omega arith
count_beyond t k (suc n) m h =
    let e : suc n + m ≡ suc (n + m) = omega arith in
    ap (λ j. count_from k j t) e ∙ ap (λ (j : ℕ). one_if (t k) + j) (count_beyond t (suc k) n m (λ x le. h x (omega (arith, le))))

-- a count over the places of a list
pub count_places : {A : Type 0} (f : A → ℕ) (t : ℕ → Bool) (xs : List A) (k : ℕ) → ((j n : ℕ) (x : A) → n ≡ k + j → slice_get xs j ≡ Some x → one_if (t n) ≤ f x) → count_from k (length xs) t ≤ sum_by f xs
count_places f t [] k h = omega arith
count_places f t (x ∷ xs) k h =
    let rest : count_from (suc k) (length xs) t ≤ sum_by f xs = count_places f t xs (suc k) (λ j n y e there. h (suc j) n y (omega (arith, e)) there) in
    let here : one_if (t k) ≤ f x = h 0 k x (omega arith) refl in
    let total : sum_by f (x ∷ xs) ≡ f x + sum_by f xs = sum_by-cons f x xs in
    omega arith

-- FREE PINS
pub free_length : (ds : List ℕ) → free_in ds ≤ length ds
free_length [] = omega arith
free_length (d ∷ ds) = let rest : free_in ds ≤ length ds = free_length ds in let one : one_if (nat_lt 1 d) ≤ 1 = at_most_one (nat_lt 1 d) in omega arith

pub free_without : (ds : List ℕ) (p : ℕ) → free_in (without ds p) ≤ free_in ds
free_without [] p = omega arith
free_without (d ∷ ds) zero = omega arith
free_without (d ∷ ds) (suc p) = let rest : free_in (without ds p) ≤ free_in ds = free_without ds p in omega arith

pub length_without : (ds : List ℕ) (p : ℕ) → p < length ds → length (without ds p) + 1 ≡ length ds
length_without [] p lt = absurd (omega (arith, lt))
length_without (d ∷ ds) zero lt = omega arith
length_without (d ∷ ds) (suc p) lt = let rest : length (without ds p) + 1 ≡ length ds = length_without ds p (omega (arith, lt)) in omega arith

pub free_set : (ds : List ℕ) (p c d : ℕ) → slice_get ds p ≡ Some d → one_if (nat_lt 1 c) ≡ 0 → free_in (slice_set ds p c) + one_if (nat_lt 1 d) ≡ free_in ds
free_set [] p c d e none = cc
free_set (x ∷ ds) zero c d e none = let is : x ≡ d = cc in let same : one_if (nat_lt 1 x) ≡ one_if (nat_lt 1 d) = ap (λ y. one_if (nat_lt 1 y)) is in omega arith
free_set (x ∷ ds) (suc p) c d e none = let rest : free_in (slice_set ds p c) + one_if (nat_lt 1 d) ≡ free_in ds = free_set ds p c d e none in omega arith

pub free_last : (ds : List ℕ) (d : ℕ) → free_in (ds ++ d ∷ []) ≤ free_in ds + 1
free_last [] d = let one : one_if (nat_lt 1 d) ≤ 1 = at_most_one (nat_lt 1 d) in omega arith
free_last (x ∷ ds) d = let rest : free_in (ds ++ d ∷ []) ≤ free_in ds + 1 = free_last ds d in omega arith

pub free_moved : (from to : ℕ) (ds : List ℕ) → 1 < from → free_in (map (redirected from to) ds) ≤ free_in ds
free_moved from to [] lt = omega arith
free_moved from to (d ∷ ds) lt =
    let rest : free_in (map (redirected from to) ds) ≤ free_in ds = free_moved from to ds lt in
    let here : one_if (nat_lt 1 (redirected from to d)) ≤ one_if (nat_lt 1 d) = at (eqb_tells d from) in
    omega arith
  where
    at : ((nat_eq d from ≡ true) × (d ≡ from)) ⊎ ((nat_eq d from ≡ false) × (d ≢ from)) → one_if (nat_lt 1 (redirected from to d)) ≤ one_if (nat_lt 1 d)
    at (inl t) =
        let is : one_if (nat_lt 1 d) ≡ 1 = ap one_if (lt-ltb 1 d (omega (arith, t.1, lt))) in
        let most : one_if (nat_lt 1 (redirected from to d)) ≤ 1 = at_most_one (nat_lt 1 (redirected from to d)) in
        omega (arith, most, is)
    at (inr t) = let is : redirected from to d ≡ d = ap (λ b. if b then to else d) t.0 in rw is (omega arith)

pub length_moved : (from to : ℕ) (ds : List ℕ) → length (map (redirected from to) ds) ≡ length ds
length_moved from to [] = refl
length_moved from to (d ∷ ds) = ap suc (length_moved from to ds)
