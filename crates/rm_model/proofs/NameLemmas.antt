-- Names in lists: where they stand, and that each stands once.
use Rattle.std.proofs.Common.{◌≡◌, ℕ, zero, suc, List, [], ◌∷◌, ◌++◌, map, take, get_or, Bool, true, false, cond, not, ◌||◌, Option, Some, None, ◌⊎◌, inl, inr, refl, sym, ap, ◌∙◌, subst}
use Rattle.std.specs.Prelude.{slice_get}
use Rattle.std.specs.List.{list_all, flat_map, filter_map, cons_option}
use Rattle.std.specs.Option.{option_map}
use Rattle.std.proofs.lemmas.Option.{slice_get-map, get_or_from_slice_get}
use Rattle.std.proofs.Math.Bool.{or-true}
use Rattle.std.proofs.lemmas.Bool.{and_parts, false_from_ne_true, or_cases}
use Rattle.rm_model.specs.Words.{is_word}
use Rattle.rm_model.specs.Value.{is_among}
use Rattle.rm_model.specs.WellFormed.{is_distinct}
use Rattle.rm_model.specs.Numbers.{place_of}
use Rattle.rm_model.specs.declared.parts.Cover.{Cover}
use Rattle.rm_model.proofs.CoverLemmas.{same_word, among-at}
use Rattle.rm_base.proofs.Public.{list_all-parts, not_excludes}
use Rattle.rm_base.specs.Words.{Word}

pub place-found : (ys : List Word) (x : Word) (k : ℕ) → place_of ys x ≡ Some k → slice_get ys k ≡ Some x
place-found [] x k e = absurd cc
place-found (y ∷ ys) x k e = go (is_word x y) refl (place_of ys x) refl e (place-found ys x)
  where
    go : (b : Bool) → is_word x y ≡ b → (o : Option ℕ) → place_of ys x ≡ o → cond b (Some 0) (option_map (λ k. suc k) o) ≡ Some k → ((j : ℕ) → place_of ys x ≡ Some j → slice_get ys j ≡ Some x) → slice_get (y ∷ ys) k ≡ Some x
    go true same o is e rest = let k0 : 0 ≡ k = cc in subst (λ (i : ℕ). slice_get (y ∷ ys) i ≡ Some x) k0 (ap Some (sym (same_word x y same)))
    go false other None is e rest = absurd cc
    go false other (Some j) is e rest = let kj : suc j ≡ k = cc in subst (λ (i : ℕ). slice_get (y ∷ ys) i ≡ Some x) kj (rest j is)

pub place-absent : (ys : List Word) (x : Word) → place_of ys x ≡ None → is_among ys x ≡ false
place-absent [] x e = refl
place-absent (y ∷ ys) x e = go (is_word x y) refl (place_of ys x) refl e (place-absent ys x)
  where
    go : (b : Bool) → is_word x y ≡ b → (o : Option ℕ) → place_of ys x ≡ o → cond b (Some 0) (option_map (λ k. suc k) o) ≡ None → (place_of ys x ≡ None → is_among ys x ≡ false) → (b || is_among ys x) ≡ false
    go true same o is e rest = absurd cc
    go false other None is e rest = rest is
    go false other (Some j) is e rest = absurd cc

pub value-at : (v : Word → Bool) (names : List Word) (values : List Bool) (k : ℕ) (x : Word) (b : Bool) → map v names ≡ values → slice_get names k ≡ Some x → b ≡ get_or values k b → b ≡ v x
value-at v names values k x b e at is =
    let there : slice_get (map v names) k ≡ Some (v x) = slice_get-map v names k ∙ ap (option_map v) at in
    let value : slice_get values k ≡ Some (v x) = subst (λ (bs : List Bool). slice_get bs k ≡ Some (v x)) e there in
    is ∙ get_or_from_slice_get values k (v x) b value

pub among-append : (xs ys : List Word) (x : Word) → is_among (xs ++ ys) x ≡ true → (is_among xs x ≡ true) ⊎ (is_among ys x ≡ true)
among-append [] ys x e = inr e
among-append (z ∷ xs) ys x e = elim (or_cases (is_word x z) (is_among (xs ++ ys) x) e) [
  | inl here ↦ inl (ap (λ (b : Bool). b || is_among xs x) here)
  | inr later ↦ elim (among-append xs ys x later) [ inl h ↦ inl (ap (λ (b : Bool). is_word x z || b) h ∙ or-true (is_word x z)) | inr h ↦ inr h ]
]

pub among-left : (xs ys : List Word) (x : Word) → is_among xs x ≡ true → is_among (xs ++ ys) x ≡ true
among-left [] ys x e = absurd cc
among-left (z ∷ xs) ys x e = elim (or_cases (is_word x z) (is_among xs x) e) [
  | inl here ↦ ap (λ (b : Bool). b || is_among (xs ++ ys) x) here
  | inr later ↦ ap (λ (b : Bool). is_word x z || b) (among-left xs ys x later) ∙ or-true (is_word x z)
]

pub among-right : (xs ys : List Word) (x : Word) → is_among ys x ≡ true → is_among (xs ++ ys) x ≡ true
among-right [] ys x e = e
among-right (z ∷ xs) ys x e = ap (λ (b : Bool). is_word x z || b) (among-right xs ys x e) ∙ or-true (is_word x z)

-- no name of a list stands behind it again
pub distinct-apart : (xs ys : List Word) (x : Word) → is_distinct (xs ++ ys) ≡ true → is_among xs x ≡ true → is_among ys x ≡ true → ⊥
distinct-apart [] ys x once e f = cc
distinct-apart (z ∷ xs) ys x once e f =
    let parts = and_parts (not (is_among (xs ++ ys) z)) (is_distinct (xs ++ ys)) once in
    elim (or_cases (is_word x z) (is_among xs x) e) [
      | inl here ↦ not_excludes (is_among (xs ++ ys) z) parts.0 (among-right xs ys z (subst (λ (w : Word). is_among ys w ≡ true) (same_word x z here) f))
      | inr later ↦ distinct-apart xs ys x parts.1 later f
    ]

pub distinct-left : (xs ys : List Word) → is_distinct (xs ++ ys) ≡ true → is_distinct xs ≡ true
distinct-left [] ys once = refl
distinct-left (z ∷ xs) ys once =
    let parts = and_parts (not (is_among (xs ++ ys) z)) (is_distinct (xs ++ ys)) once in
    let new : is_among xs z ≡ false = false_from_ne_true (is_among xs z) (λ e. not_excludes (is_among (xs ++ ys) z) parts.0 (among-left xs ys z e)) in
    rw (new, distinct-left xs ys parts.1) refl

-- a name isn't among those before it
pub new-word : (xs : List Word) (i : ℕ) (x : Word) → is_distinct xs ≡ true → slice_get xs i ≡ Some x → is_among (take i xs) x ≡ false
new-word [] i x once e = absurd cc
new-word (y ∷ xs) zero x once e = refl
new-word (y ∷ xs) (suc i) x once e =
    let parts = and_parts (not (is_among xs y)) (is_distinct xs) once in
    let other : is_word x y ≡ false = false_from_ne_true (is_word x y) (λ same. not_excludes (is_among xs y) parts.0 (subst (λ (w : Word). is_among xs w ≡ true) (same_word x y same) (among-at xs i x e))) in
    rw (other, new-word xs i x parts.1 e) refl

-- two places of one name are one
pub same-place : (xs : List Word) (i j : ℕ) (x : Word) → is_distinct xs ≡ true → slice_get xs i ≡ Some x → slice_get xs j ≡ Some x → i ≡ j
same-place [] i j x once e f = absurd cc
same-place (y ∷ xs) zero zero x once e f = refl
same-place (y ∷ xs) zero (suc j) x once e f = let is : x ≡ y = cc in absurd (not_excludes (is_among xs y) (and_parts (not (is_among xs y)) (is_distinct xs) once).0 (subst (λ (w : Word). is_among xs w ≡ true) is (among-at xs j x f)))
same-place (y ∷ xs) (suc i) zero x once e f = let is : x ≡ y = cc in absurd (not_excludes (is_among xs y) (and_parts (not (is_among xs y)) (is_distinct xs) once).0 (subst (λ (w : Word). is_among xs w ≡ true) is (among-at xs i x e)))
same-place (y ∷ xs) (suc i) (suc j) x once e f = ap suc (same-place xs i j x (and_parts (not (is_among xs y)) (is_distinct xs) once).1 e f)

pub list_all-inputs : (p : Word → Bool) (cs : List Cover) (k : ℕ) (c : Cover) → list_all p (flat_map (λ (c : Cover). c.inputs) cs) ≡ true → slice_get cs k ≡ Some c → list_all p c.inputs ≡ true
list_all-inputs p [] k c e at = absurd cc
list_all-inputs p (d ∷ cs) zero c e at = let is : d ≡ c = cc in subst (λ (c : Cover). list_all p c.inputs ≡ true) is (list_all-parts p d.inputs (flat_map (λ (c : Cover). c.inputs) cs) e).0
list_all-inputs p (d ∷ cs) (suc k) c e at = list_all-inputs p cs k c (list_all-parts p d.inputs (flat_map (λ (c : Cover). c.inputs) cs) e).1 at

pub in-filter_map : (f : Word → Option ℕ) (xs : List Word) (p d : ℕ) (x : Word) → slice_get xs p ≡ Some x → f x ≡ Some d → (q : ℕ) × (slice_get (filter_map f xs) q ≡ Some d)
in-filter_map f [] p d x at e = absurd cc
in-filter_map f (y ∷ xs) zero d x at e = let is : y ≡ x = cc in let here : f y ≡ Some d = ap f is ∙ e in (0, rw here refl)
in-filter_map f (y ∷ xs) (suc p) d x at e = go (f y) (in-filter_map f xs p d x at e)
  where
    go : (o : Option ℕ) → ((q : ℕ) × (slice_get (filter_map f xs) q ≡ Some d)) → (q : ℕ) × (slice_get (cons_option o (filter_map f xs)) q ≡ Some d)
    go None r = r
    go (Some z) r = (suc r.0, r.1)
