-- What is left of a list as a loop goes on.
use Rattle.std.proofs.Common.{◌≡◌, ℕ, zero, suc, ◌+◌, ◌<◌, ◌≤◌, List, [], ◌∷◌, length, drop, get_or, refl, ap, ◌∙◌, sym, arith}
use Rattle.journal_text.specs.declared.record.Entry.{Entry}

left_at : (i : ℕ) (xs : List Entry) (d : Entry) → i < length xs → drop i xs ≡ get_or xs i d ∷ drop (suc i) xs
left_at zero [] d l = absurd (omega (arith, l))
left_at zero (x ∷ xs) d l = refl
left_at (suc i) [] d l = absurd (omega (arith, l))
left_at (suc i) (x ∷ xs) d l = left_at i xs d (omega (arith, l))

pub left_from : (i : ℕ) (xs : List Entry) (d : Entry) → i < length xs → drop i xs ≡ get_or xs i d ∷ drop (i + 1) xs
left_from i xs d l =
    let next : suc i ≡ i + 1 = omega arith in
    left_at i xs d l ∙ ap (λ (k : ℕ). get_or xs i d ∷ drop k xs) next
