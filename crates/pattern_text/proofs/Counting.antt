-- Counting, one by one.
use Rattle.std.proofs.Common.{◌≡◌, ◌∙◌, ℕ, zero, suc, min, ◌+◌, ◌≤◌, ◌⊎◌, inl, inr, Bool, true, false, List, [], ◌∷◌, length, drop, Option, None, Some, refl, sym, ap, ap₂, arith}
use Rattle.std.specs.Prelude.{slice_get}
use Rattle.rm_base.proofs.Public.{drop_end}
use Rattle.pattern_text.specs.Text.{detected_of, of_last, undecided_of}
use Rattle.pattern_text.proofs.Adding.{drop_next}

zero_plus : (n : ℕ) → n ≡ 0 + n
zero_plus n = omega arith

one_plus : (n : ℕ) → suc n ≡ 1 + n
one_plus n = omega arith

detected_next : (x : Option ℕ) (xs : List (Option ℕ)) → detected_of (x ∷ xs) ≡ detected_of (x ∷ []) + detected_of xs
detected_next None xs = zero_plus (detected_of xs)
detected_next (Some n) xs = one_plus (detected_of xs)

undecided_next : (x : Option ℕ) (xs : List (Option ℕ)) → undecided_of (x ∷ xs) ≡ undecided_of (x ∷ []) + undecided_of xs
undecided_next None xs = one_plus (undecided_of xs)
undecided_next (Some n) xs = zero_plus (undecided_of xs)

-- what is counted, and what the rest has, is the count of all; no more are counted than were seen
pub record IsCounted (all rest count seen : ℕ) : Type 0 where
  pub sum : count + rest ≡ all
  pub few : count ≤ seen

pub none_counted : (all : ℕ) → IsCounted all all 0 0
none_counted all = record { sum = sym (zero_plus all); few = omega arith }

counted_more : (all rest piece next count more seen : ℕ) → rest ≡ piece + next → piece ≤ 1 → more ≡ count + piece → IsCounted all rest count seen → IsCounted all next more (seen + 1)
counted_more all rest piece next count more seen e le f h = record { sum = omega (arith, e, f, h.sum); few = omega (arith, f, le, h.few) }

pub all_counted : (all rest count seen : ℕ) → rest ≡ 0 → IsCounted all rest count seen → count ≡ all
all_counted all rest count seen e h = omega (arith, e, h.sum)

detected_one : (x : Option ℕ) → detected_of (x ∷ []) ≤ 1
detected_one None = omega arith
detected_one (Some n) = omega arith

undecided_one : (x : Option ℕ) → undecided_of (x ∷ []) ≤ 1
undecided_one None = omega arith
undecided_one (Some n) = omega arith

pub detected_more : (firsts : List (Option ℕ)) (at : ℕ) (x : Option ℕ) (count more : ℕ) → slice_get firsts at ≡ Some x → more ≡ count + detected_of (x ∷ [])
    → IsCounted (detected_of firsts) (detected_of (drop at firsts)) count at → IsCounted (detected_of firsts) (detected_of (drop (at + 1) firsts)) more (at + 1)
detected_more firsts at x count more there e h =
    counted_more (detected_of firsts) (detected_of (drop at firsts)) (detected_of (x ∷ [])) (detected_of (drop (at + 1) firsts)) count more at
    (ap detected_of (drop_next firsts at x there) ∙ detected_next x (drop (at + 1) firsts)) (detected_one x) e h

pub undecided_more : (firsts : List (Option ℕ)) (at : ℕ) (x : Option ℕ) (count more : ℕ) → slice_get firsts at ≡ Some x → more ≡ count + undecided_of (x ∷ [])
    → IsCounted (undecided_of firsts) (undecided_of (drop at firsts)) count at → IsCounted (undecided_of firsts) (undecided_of (drop (at + 1) firsts)) more (at + 1)
undecided_more firsts at x count more there e h =
    counted_more (undecided_of firsts) (undecided_of (drop at firsts)) (undecided_of (x ∷ [])) (undecided_of (drop (at + 1) firsts)) count more at
    (ap undecided_of (drop_next firsts at x there) ∙ undecided_next x (drop (at + 1) firsts)) (undecided_one x) e h

pub detected_end : (firsts : List (Option ℕ)) (at : ℕ) → length firsts ≤ at → detected_of (drop at firsts) ≡ 0
detected_end firsts at le = ap detected_of (drop_end firsts at le)

pub undecided_end : (firsts : List (Option ℕ)) (at : ℕ) → length firsts ≤ at → undecided_of (drop at firsts) ≡ 0
undecided_end firsts at le = ap undecided_of (drop_end firsts at le)

-- ---- of those that are the last of their classes

abbrev pub last_from : ℕ → List (Option ℕ) → List Bool → List (Option ℕ)
last_from at firsts lasts = of_last (drop at firsts) (drop at lasts)

last_detected_next : (x : Option ℕ) (l : Bool) (xs : List (Option ℕ)) (ls : List Bool) → detected_of (of_last (x ∷ xs) (l ∷ ls)) ≡ detected_of (of_last (x ∷ []) (l ∷ [])) + detected_of (of_last xs ls)
last_detected_next x true xs ls = detected_next x (of_last xs ls)
last_detected_next x false xs ls = zero_plus (detected_of (of_last xs ls))

last_undecided_next : (x : Option ℕ) (l : Bool) (xs : List (Option ℕ)) (ls : List Bool) → undecided_of (of_last (x ∷ xs) (l ∷ ls)) ≡ undecided_of (of_last (x ∷ []) (l ∷ [])) + undecided_of (of_last xs ls)
last_undecided_next x true xs ls = undecided_next x (of_last xs ls)
last_undecided_next x false xs ls = zero_plus (undecided_of (of_last xs ls))

last_detected_one : (x : Option ℕ) (l : Bool) → detected_of (of_last (x ∷ []) (l ∷ [])) ≤ 1
last_detected_one x true = detected_one x
last_detected_one x false = omega arith

last_undecided_one : (x : Option ℕ) (l : Bool) → undecided_of (of_last (x ∷ []) (l ∷ [])) ≤ 1
last_undecided_one x true = undecided_one x
last_undecided_one x false = omega arith

pub last_detected_more : (firsts : List (Option ℕ)) (lasts : List Bool) (at : ℕ) (x : Option ℕ) (l : Bool) (count more : ℕ) → slice_get firsts at ≡ Some x → slice_get lasts at ≡ Some l → more ≡ count + detected_of (of_last (x ∷ []) (l ∷ []))
    → IsCounted (detected_of (of_last firsts lasts)) (detected_of (last_from at firsts lasts)) count at → IsCounted (detected_of (of_last firsts lasts)) (detected_of (last_from (at + 1) firsts lasts)) more (at + 1)
last_detected_more firsts lasts at x l count more there is e h =
    counted_more (detected_of (of_last firsts lasts)) (detected_of (last_from at firsts lasts)) (detected_of (of_last (x ∷ []) (l ∷ []))) (detected_of (last_from (at + 1) firsts lasts)) count more at
    (ap₂ (λ (xs : List (Option ℕ)) (ls : List Bool). detected_of (of_last xs ls)) (drop_next firsts at x there) (drop_next lasts at l is) ∙ last_detected_next x l (drop (at + 1) firsts) (drop (at + 1) lasts)) (last_detected_one x l) e h

pub last_undecided_more : (firsts : List (Option ℕ)) (lasts : List Bool) (at : ℕ) (x : Option ℕ) (l : Bool) (count more : ℕ) → slice_get firsts at ≡ Some x → slice_get lasts at ≡ Some l → more ≡ count + undecided_of (of_last (x ∷ []) (l ∷ []))
    → IsCounted (undecided_of (of_last firsts lasts)) (undecided_of (last_from at firsts lasts)) count at → IsCounted (undecided_of (of_last firsts lasts)) (undecided_of (last_from (at + 1) firsts lasts)) more (at + 1)
last_undecided_more firsts lasts at x l count more there is e h =
    counted_more (undecided_of (of_last firsts lasts)) (undecided_of (last_from at firsts lasts)) (undecided_of (of_last (x ∷ []) (l ∷ []))) (undecided_of (last_from (at + 1) firsts lasts)) count more at
    (ap₂ (λ (xs : List (Option ℕ)) (ls : List Bool). undecided_of (of_last xs ls)) (drop_next firsts at x there) (drop_next lasts at l is) ∙ last_undecided_next x l (drop (at + 1) firsts) (drop (at + 1) lasts)) (last_undecided_one x l) e h

of_no_lasts : (xs : List (Option ℕ)) → of_last xs [] ≡ []
of_no_lasts [] = refl
of_no_lasts (x ∷ xs) = refl

pub past_one : (m n at : ℕ) → min m n ≤ at → (m ≤ at) ⊎ (n ≤ at)
past_one m n at le = elim (le_or m n) [ inl h ↦ inl (omega (arith, le, h)) | inr h ↦ inr (omega (arith, le, h)) ]
  where
    le_or : (a b : ℕ) → (a ≤ b) ⊎ (b ≤ a)
    le_or zero b = inl (omega arith)
    le_or (suc a) zero = inr (omega arith)
    le_or (suc a) (suc b) = elim (le_or a b) [ inl h ↦ inl (omega (arith, h)) | inr h ↦ inr (omega (arith, h)) ]

pub last_end : (firsts : List (Option ℕ)) (lasts : List Bool) (at : ℕ) → (length firsts ≤ at) ⊎ (length lasts ≤ at) → last_from at firsts lasts ≡ []
last_end firsts lasts at (inl le) = ap (λ (xs : List (Option ℕ)). of_last xs (drop at lasts)) (drop_end firsts at le)
last_end firsts lasts at (inr le) = ap (λ (ls : List Bool). of_last (drop at firsts) ls) (drop_end lasts at le) ∙ of_no_lasts (drop at firsts)
