-- Names that are compared.
use Rattle.std.proofs.Common.{◌≡◌, ◌≢◌, List, [], ◌∷◌, ◌++◌, Bool, true, false, ◌||◌, ◌⊎◌, inl, inr, refl, sym, ◌∙◌, ap}
use Rattle.std.proofs.lemmas.Slice.Eq.{bytes_eq-Decides}
use Rattle.std.proofs.Math.Bool.{or-false, or_assoc}
use Rattle.rm_model.specs.Words.{is_word}
use Rattle.rm_model.specs.Value.{is_among}
use Rattle.rm_base.specs.Words.{Word}

pub word_tells : (a b : Word) → ((is_word a b ≡ true) × (a ≡ b)) ⊎ ((is_word a b ≡ false) × (a ≢ b))
word_tells a b = at (is_word a b) refl
  where
    at : (t : Bool) → is_word a b ≡ t → ((is_word a b ≡ true) × (a ≡ b)) ⊎ ((is_word a b ≡ false) × (a ≢ b))
    at true e = inl (e, (bytes_eq-Decides a b).0 e)
    at false e = inr (e, λ same. let wrong : true ≡ false = sym ((bytes_eq-Decides a b).1 same) ∙ e in cc)

pub word_turned : (a b : Word) → is_word a b ≡ is_word b a
word_turned a b = elim (word_tells a b) [
  | inl t ↦ t.0 ∙ sym ((bytes_eq-Decides b a).1 (sym t.1))
  | inr t ↦ elim (word_tells b a) [ inl u ↦ absurd (t.1 (sym u.1)) | inr u ↦ t.0 ∙ sym u.0 ]
]

pub among_more : (xs : List Word) (x y : Word) → is_among (xs ++ x ∷ []) y ≡ (is_among xs y || is_word y x)
among_more [] x y = or-false (is_word y x)
among_more (z ∷ zs) x y = ap (λ b. is_word y z || b) (among_more zs x y) ∙ sym (or_assoc (is_word y z) (is_among zs y) (is_word y x))
