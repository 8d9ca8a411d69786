-- Names, covers and lists by what stands in them.
use Rattle.std.proofs.Common.{◌≡◌, Bool, true, false, not, List, [], ◌∷◌, ◌++◌, map, ◌⊎◌, inl, inr, refl, sym, ap, ◌∙◌, subst, append-nil}
use Rattle.std.specs.Prelude.{All, Contains}
use Rattle.std.specs.List.{flat_map, list_all}
use Rattle.std.proofs.lemmas.Bool.{and_parts, false_from_ne_true}
use Rattle.std.proofs.lemmas.List.{map-append}
use Rattle.rm_model.specs.Words.{is_word}
use Rattle.rm_model.specs.Value.{is_among, source_names, observed_names, outputs_of}
use Rattle.rm_model.specs.WellFormed.{is_distinct}
use Rattle.rm_model.specs.declared.parts.Cover.{Cover}
use Rattle.rm_model.specs.declared.parts.Model.{Model}
use Rattle.rm_model.proofs.Public.{distinct-apart, is_word-same, same_word}
use Rattle.rm_base.specs.Members.{In}
use Rattle.rm_base.specs.Words.{Word}
use Rattle.rm_base.proofs.Public.{all_at, all_from_places, all_pass_in, any_in, both_and, in_any, in_append, in_at, in_contained, in_left, in_map, in_mapped, in_right, not_excludes, place_of_member}

pub in-among : (xs : List Word) (x : Word) → In xs x → is_among xs x ≡ true
in-among xs x h = any_in (is_word x) xs x h (is_word-same x)

pub among-in : (xs : List Word) (x : Word) → is_among xs x ≡ true → In xs x
among-in xs x e =
    let r : (y : Word) × (In xs y × (is_word x y ≡ true)) = in_any (is_word x) xs e in
    subst (λ (y : Word). In xs y) (sym (same_word x r.0 r.1.1)) r.1.0

pub all-in : {A : Type 0} (P : A → Type 0) (xs : List A) (x : A) → All P xs → In xs x → P x
all-in P xs x h there = let r = place_of_member xs x there in all_at P xs r.0 x h r.1

pub in-all : {A : Type 0} (P : A → Type 0) (xs : List A) → ((x : A) → In xs x → P x) → All P xs
in-all P xs h = all_from_places P xs (λ k x e. h x (in_at xs k x e))

pub contains-in : {A : Type 0} (xs : List A) (x : A) → Contains xs x → In xs x
contains-in xs x h = in_contained xs x h.0 h.1 h.2

pub pass-all : {A : Type 0} (test : A → Bool) (xs : List A) → ((x : A) → In xs x → test x ≡ true) → list_all test xs ≡ true
pass-all test [] h = refl
pass-all test (x ∷ xs) h = both_and (test x) (list_all test xs) (h x (inl refl)) (pass-all test xs (λ y there. h y (inr there)))

-- each name of one list is one of the other
pub all-among : (ys xs : List Word) (x : Word) → list_all (is_among ys) xs ≡ true → In xs x → In ys x
all-among ys xs x h there = among-in ys x (all_pass_in (is_among ys) xs x h there)

pub in_flat : {A B : Type 0} (f : A → List B) (xs : List A) (a : A) (y : B) → In xs a → In (f a) y → In (flat_map f xs) y
in_flat f [] a y h there = absurd h
in_flat {B = B} f (x ∷ xs) a y (inl e) there = in_left (f x) (flat_map f xs) y (subst (λ (l : List B). In l y) (ap f (sym e)) there)
in_flat f (x ∷ xs) a y (inr h) there = in_right (f x) (flat_map f xs) y (in_flat f xs a y h there)

-- DISTINCT NAMES

pub apart : (xs ys : List Word) (x : Word) → is_distinct (xs ++ ys) ≡ true → In xs x → In ys x → ⊥
apart xs ys x once h k = distinct-apart xs ys x once (in-among xs x h) (in-among ys x k)

pub not-among : (xs : List Word) (x : Word) → (In xs x → ⊥) → is_among xs x ≡ false
not-among xs x h = false_from_ne_true (is_among xs x) (λ e. h (among-in xs x e))

pub not_there : (xs : List Word) (x : Word) → (In xs x → ⊥) → not (is_among xs x) ≡ true
not_there xs x h = ap not (not-among xs x h)

pub distinct_head : (x : Word) (xs : List Word) → is_distinct (x ∷ xs) ≡ true → In xs x → ⊥
distinct_head x xs once h = not_excludes (is_among xs x) (and_parts (not (is_among xs x)) (is_distinct xs) once).0 (in-among xs x h)

pub distinct_tail : (x : Word) (xs : List Word) → is_distinct (x ∷ xs) ≡ true → is_distinct xs ≡ true
distinct_tail x xs once = (and_parts (not (is_among xs x)) (is_distinct xs) once).1

pub distinct-join : (xs ys : List Word) → is_distinct xs ≡ true → is_distinct ys ≡ true → ((x : Word) → In xs x → In ys x → ⊥) → is_distinct (xs ++ ys) ≡ true
distinct-join [] ys h k none = k
distinct-join (x ∷ xs) ys h k none =
    both_and (not (is_among (xs ++ ys) x)) (is_distinct (xs ++ ys))
    (not_there (xs ++ ys) x (λ there. elim (in_append xs ys x there) [ inl a ↦ distinct_head x xs h a | inr b ↦ none x (inl refl) b ]))
    (distinct-join xs ys (distinct_tail x xs h) k (λ y a b. none y (inr a) b))

pub distinct-map : (f : Word → Word) (xs : List Word) → ((x y : Word) → In xs x → In xs y → f x ≡ f y → x ≡ y) → is_distinct xs ≡ true → is_distinct (map f xs) ≡ true
distinct-map f [] told once = refl
distinct-map f (x ∷ xs) told once =
    both_and (not (is_among (map f xs) (f x))) (is_distinct (map f xs))
    (not_there (map f xs) (f x) (λ there.
    let r : (z : Word) × (In xs z × (f z ≡ f x)) = in_map f xs (f x) there in
    distinct_head x xs once (subst (λ (z : Word). In xs z) (told r.0 x (inr r.1.0) (inl refl) r.1.1) r.1.0)))
    (distinct-map f xs (λ y z a b e. told y z (inr a) (inr b) e) (distinct_tail x xs once))

-- OUTPUTS OF COVERS

pub outputs-append : (cs ds : List Cover) → outputs_of (cs ++ ds) ≡ outputs_of cs ++ outputs_of ds
outputs-append cs ds = map-append (λ (c : Cover). c.output) cs ds

pub in-outputs : (cs : List Cover) (c : Cover) → In cs c → In (outputs_of cs) c.output
in-outputs cs c h = in_mapped (λ (c : Cover). c.output) cs c h

pub outputs-in : (cs ds : List Cover) (x : Word) → In (outputs_of (cs ++ ds)) x → In (outputs_of cs) x ⊎ In (outputs_of ds) x
outputs-in cs ds x h = in_append (outputs_of cs) (outputs_of ds) x (subst (λ (l : List Word). In l x) (outputs-append cs ds) h)

pub outputs-left : (cs ds : List Cover) (x : Word) → In (outputs_of cs) x → In (outputs_of (cs ++ ds)) x
outputs-left cs ds x h = subst (λ (l : List Word). In l x) (sym (outputs-append cs ds)) (in_left (outputs_of cs) (outputs_of ds) x h)

pub outputs-right : (cs ds : List Cover) (x : Word) → In (outputs_of ds) x → In (outputs_of (cs ++ ds)) x
outputs-right cs ds x h = subst (λ (l : List Word). In l x) (sym (outputs-append cs ds)) (in_right (outputs_of cs) (outputs_of ds) x h)

-- MODELS WITHOUT CLOCKS AND LATCHES

pub plain-sources : (p : Model) → p.clocks ≡ [] → p.latches ≡ [] → source_names p ≡ p.inputs
plain-sources p e f = rw (e, f) (append-nil (p.inputs ++ []) ∙ append-nil p.inputs)

pub plain-observed : (p : Model) → p.latches ≡ [] → observed_names p ≡ p.outputs
plain-observed p f = rw f (append-nil (p.outputs ++ []) ∙ append-nil p.outputs)
