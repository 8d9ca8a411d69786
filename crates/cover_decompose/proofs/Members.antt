-- Names among names.
use Rattle.std.proofs.Common.{◌≡◌, Bool, true, false, List, [], ◌∷◌, refl, sym, ◌⊎◌, inl, inr}
use Rattle.std.specs.Prelude.{◌||◌}
use Rattle.rm_model.specs.Words.{is_word}
use Rattle.rm_model.specs.Value.{is_among}
use Rattle.rm_base.specs.Members.{In}
use Rattle.rm_base.specs.Words.{Word}
use Rattle.rm_model.proofs.Public.{is_word-same, same_word}

pub among_in : (xs : List Word) (x : Word) → In xs x → is_among xs x ≡ true
among_in [] x h = absurd h
among_in (y ∷ xs) x (inl e) = let same : is_word x y ≡ true = rw e (is_word-same x) in rw same refl
among_in (y ∷ xs) x (inr h) = let rest : is_among xs x ≡ true = among_in xs x h in by_test (is_word x y) rest
  where
    by_test : (b : Bool) → is_among xs x ≡ true → (b || is_among xs x) ≡ true
    by_test true e = refl
    by_test false e = e

pub in_among : (xs : List Word) (x : Word) → is_among xs x ≡ true → In xs x
in_among [] x e = absurd cc
in_among (y ∷ xs) x e = by_test (is_word x y) refl (in_among xs x) e
  where
    by_test : (b : Bool) → is_word x y ≡ b → (is_among xs x ≡ true → In xs x) → (b || is_among xs x) ≡ true → (y ≡ x) ⊎ In xs x
    by_test true same next e = inl (sym (same_word x y same))
    by_test false same next e = inr (next e)
