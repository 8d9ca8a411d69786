-- Blanks that are added one by one.
use Rattle.std.proofs.Common.{◌≡◌, ◌∙◌, ◌++◌, ◌∷◌, ◌+◌, ◌-◌, ◌<◌, [], ℕ, List, ap, sym, suc, replicate, arith}
use Rattle.std.proofs.lemmas.List.{append_assoc}

pub one_more : (out : List ℕ) (count place : ℕ) (all : List ℕ) → place < count → out ++ replicate (count - place) 32 ≡ all
    → (out ++ 32 ∷ []) ++ replicate (count - (place + 1)) 32 ≡ all
one_more out count place all more before =
    let e : count - place ≡ suc (count - (place + 1)) = omega arith in
    append_assoc out (32 ∷ []) (replicate (count - (place + 1)) 32) ∙ (ap (λ (n : ℕ). out ++ replicate n 32) (sym e) ∙ before)
