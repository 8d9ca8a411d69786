-- Lists of names that differ at their end.
use Rattle.std.proofs.Common.{Bool, List, [], ap, arith, cond, drop, false, length, refl, suc, sym, true, zero, ℕ, ◌+◌, ◌<◌, ◌∙◌, ◌∷◌, ◌≡◌, ◌≤◌}
use Rattle.std.specs.Prelude.{None, Option, Some}
use Rattle.std.specs.Option.{option_map}
use Rattle.rm_base.proofs.Public.{drop_end}
use Rattle.rm_base.specs.Words.{Word}
use Rattle.rm_model.specs.Words.{is_word}
use Rattle.rm_model.proofs.Public.{same_word}
use Rattle.joined_nets.specs.Ready.{first_difference}

some_left : (ys : List Word) (k : ℕ) → k < length ys → (y : Word) × ((rest : List Word) × (drop k ys ≡ y ∷ rest))
some_left [] k lt = absurd (omega arith)
some_left (y ∷ ys) zero lt = (y, (ys, refl))
some_left (y ∷ ys) (suc k) lt = some_left ys k (omega arith)

-- the first list has ended, and the other hasn't
pub one_ended : (xs ys : List Word) (k : ℕ) → length xs ≤ k → k < length ys → first_difference xs ys ≡ option_map (λ (j : ℕ). k + j) (first_difference (drop k xs) (drop k ys)) → Some (k + 1) ≡ first_difference xs ys
one_ended xs ys k ended more e =
    let left = some_left ys k more in
    sym (e ∙ ap (λ (o : Option ℕ). option_map (λ (j : ℕ). k + j) o) (ap (λ (l : List Word). first_difference l (drop k ys)) (drop_end xs k ended) ∙ ap (λ (l : List Word). first_difference [] l) left.1.1))

-- lists without a difference are the same
pub no_difference : (xs ys : List Word) → first_difference xs ys ≡ None → xs ≡ ys
no_difference [] [] e = refl
no_difference [] (y ∷ ys) e = absurd cc
no_difference (x ∷ xs) [] e = absurd cc
no_difference (x ∷ xs) (y ∷ ys) e = by_head (is_word x y) refl e (no_difference xs ys)
  where
    rest_none : (o : Option ℕ) → option_map (λ (k : ℕ). suc k) o ≡ None → o ≡ None
    rest_none None e = refl
    rest_none (Some k) e = absurd cc

    by_head : (b : Bool) → is_word x y ≡ b → cond b (option_map (λ (k : ℕ). suc k) (first_difference xs ys)) (Some 1) ≡ None → (first_difference xs ys ≡ None → xs ≡ ys) → x ∷ xs ≡ y ∷ ys
    by_head true same e next = let heads : x ≡ y = same_word x y same in let tails : xs ≡ ys = next (rest_none (first_difference xs ys) e) in rw (heads, tails) refl
    by_head false same e next = absurd cc
