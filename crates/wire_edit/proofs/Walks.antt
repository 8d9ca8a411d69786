-- Walks along lists.
use Rattle.std.proofs.Common.{◌≡◌, ◌≢◌, ℕ, zero, suc, ◌+◌, ◌-◌, ◌<◌, Bool, true, false, ◌||◌, inl, inr, Some, List, [], ◌∷◌, ◌++◌, length, map, take, refl, ◌∙◌, ap, arith}
use Rattle.std.specs.Prelude.{slice_get}
use Rattle.std.proofs.lemmas.Bool.{ne_eqb, eq-eqb, cases_eq}
use Rattle.wire_edit.specs.Tests.{is_among}

pub next_place : {A B : Type 0} (f : A → B) (ds : List B) (ys : List A) (it rest : List B) (d : B) → ds ≡ map f ys ++ it → it ≡ d ∷ rest → slice_get ds (length ys) ≡ Some d
next_place f ds ys it rest d all is = ap (λ es. slice_get es (length ys)) (all ∙ ap (λ es. map f ys ++ es) is) ∙ at ys
  where
    at : (ys : List _) → slice_get (map f ys ++ d ∷ rest) (length ys) ≡ Some d
    at [] = refl
    at (y ∷ ys) = at ys

pub walked : {A B : Type 0} (f : A → B) (ds : List B) (ys : List A) (it : List B) → ds ≡ map f ys ++ it → length ds ≡ length ys + length it
walked f ds ys it all = ap length all ∙ at ys
  where
    at : (ys : List _) → length (map f ys ++ it) ≡ length ys + length it
    at [] = omega arith
    at (y ∷ ys) = let rest : length (map f ys ++ it) ≡ length ys + length it = at ys in omega arith

pub among_rest : (x d : ℕ) (it rest : List ℕ) → it ≡ d ∷ rest → d ≢ x → is_among x it ≡ is_among x rest
among_rest x d it rest is ne = ap (is_among x) is ∙ ap (λ b. b || is_among x rest) (ne_eqb d x ne)

pub among_first : (x d : ℕ) (it rest : List ℕ) → it ≡ d ∷ rest → d ≡ x → is_among x it ≡ true
among_first x d it rest is e = ap (is_among x) is ∙ ap (λ b. b || is_among x rest) (eq-eqb d x e)

pub take_rest : (left d : ℕ) (it rest : List ℕ) → it ≡ d ∷ rest → left ≢ 0 → take left it ≡ d ∷ take (left - 1) rest
take_rest zero d it rest is ne = absurd (ne refl)
take_rest (suc left) d it rest is ne = let e : suc left - 1 ≡ left = omega arith in rw (is, e) refl

pub among_taken : (x left : ℕ) (it : List ℕ) → it ≡ [] → is_among x (take left it) ≡ false
among_taken x zero it is = refl
among_taken x (suc left) it is = rw is refl

pub march : {A B : Type 0} (f : A → B) (ds : List B) (ys : List A) (it rest : List B) (x : A) → ds ≡ map f ys ++ it → it ≡ f x ∷ rest → ds ≡ map f (ys ++ x ∷ []) ++ rest
march f ds ys it rest x all is = all ∙ ap (λ es. map f ys ++ es) is ∙ at ys
  where
    at : (ys : List _) → map f ys ++ f x ∷ rest ≡ map f (ys ++ x ∷ []) ++ rest
    at [] = refl
    at (y ∷ ys) = ap (λ es. f y ∷ es) (at ys)

pub pushed : {A : Type 0} (ys : List A) (x : A) (n : ℕ) → n ≡ length ys → n + 1 ≡ length (ys ++ x ∷ [])
pushed ys x n e = ap (λ (k : ℕ). k + 1) e ∙ at ys
  where
    at : (ys : List _) → length ys + 1 ≡ length (ys ++ x ∷ [])
    at [] = refl
    at (y ∷ ys) = let rest : length ys + 1 ≡ length (ys ++ x ∷ []) = at ys in omega arith

pub none_more : (test : ℕ → Bool) (n : ℕ) → ((k : ℕ) → k < n → test k ≡ false) → test n ≡ false → (k : ℕ) → k < n + 1 → test k ≡ false
none_more test n h e k lt = elim (cases_eq k n) [ inl is ↦ ap test is ∙ e | inr ne ↦ h k (omega (arith, lt, ne)) ]
