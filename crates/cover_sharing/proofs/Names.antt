-- Names and covers by what stands in lists.
use Rattle.std.proofs.Common.{◌≡◌, ℕ, Bool, true, false, not, List, [], ◌∷◌, ◌++◌, map, ◌⊎◌, inl, inr, refl, sym, ap, ◌∙◌, subst}
use Rattle.std.specs.Prelude.{All}
use Rattle.std.specs.List.{list_all}
use Rattle.std.proofs.lemmas.Bool.{and_parts, false_from_ne_true}
use Rattle.std.proofs.lemmas.List.{map-append}
use Rattle.rm_model.specs.Value.{is_among, outputs_of}
use Rattle.rm_model.specs.WellFormed.{is_distinct}
use Rattle.rm_model.specs.declared.parts.Cover.{Cover}
use Rattle.rm_model.proofs.Public.{distinct-apart}
use Rattle.cover_decompose.proofs.Public.{among_in, in_among}
use Rattle.rm_base.specs.Members.{In}
use Rattle.rm_base.specs.Words.{Word}
use Rattle.rm_base.proofs.Public.{all_at, all_from_places, both_and, in_append, in_at, in_left, in_mapped, in_right, not_excludes, place_of_member}

pub all-in : {A : Type 0} (P : A → Type 0) (xs : List A) (x : A) → All P xs → In xs x → P x
all-in P xs x h there = let r = place_of_member xs x there in all_at P xs r.0 x h r.1

pub in-all : {A : Type 0} (P : A → Type 0) (xs : List A) → ((x : A) → In xs x → P x) → All P xs
in-all P xs h = all_from_places P xs (λ k x e. h x (in_at xs k x e))

pub pass-all : {A : Type 0} (test : A → Bool) (xs : List A) → ((x : A) → In xs x → test x ≡ true) → list_all test xs ≡ true
pass-all test [] h = refl
pass-all test (x ∷ xs) h = both_and (test x) (list_all test xs) (h x (inl refl)) (pass-all test xs (λ y there. h y (inr there)))

-- DISTINCT NAMES

pub apart : (xs ys : List Word) (x : Word) → is_distinct (xs ++ ys) ≡ true → In xs x → In ys x → ⊥
apart xs ys x once h k = distinct-apart xs ys x once (among_in xs x h) (among_in ys x k)

pub not-among : (xs : List Word) (x : Word) → (In xs x → ⊥) → is_among xs x ≡ false
not-among xs x h = false_from_ne_true (is_among xs x) (λ e. h (in_among xs x e))

distinct_head : (x : Word) (xs : List Word) → is_distinct (x ∷ xs) ≡ true → In xs x → ⊥
distinct_head x xs once h = not_excludes (is_among xs x) (and_parts (not (is_among xs x)) (is_distinct xs) once).0 (among_in xs x h)

distinct_tail : (x : Word) (xs : List Word) → is_distinct (x ∷ xs) ≡ true → is_distinct xs ≡ true
distinct_tail x xs once = (and_parts (not (is_among xs x)) (is_distinct xs) once).1

pub distinct-join : (xs ys : List Word) → is_distinct xs ≡ true → is_distinct ys ≡ true → ((x : Word) → In xs x → In ys x → ⊥) → is_distinct (xs ++ ys) ≡ true
distinct-join [] ys h k none = k
distinct-join (x ∷ xs) ys h k none =
    both_and (not (is_among (xs ++ ys) x)) (is_distinct (xs ++ ys))
    (ap not (not-among (xs ++ ys) x (λ there. elim (in_append xs ys x there) [ inl a ↦ distinct_head x xs h a | inr b ↦ none x (inl refl) b ])))
    (distinct-join xs ys (distinct_tail x xs h) k (λ y a b. none y (inr a) b))

-- OUTPUTS OF COVERS

pub outputs-append : (cs ds : List Cover) → outputs_of (cs ++ ds) ≡ outputs_of cs ++ outputs_of ds
outputs-append cs ds = map-append (λ (c : Cover). c.output) cs ds

pub in-outputs : (cs : List Cover) (c : Cover) → In cs c → In (outputs_of cs) c.output
in-outputs cs c h = in_mapped (λ (c : Cover). c.output) cs c h

pub outputs-in : (cs ds : List Cover) (x : Word) → In (outputs_of (cs ++ ds)) x → In (outputs_of cs) x ⊎ In (outputs_of ds) x
outputs-in cs ds x h = in_append (outputs_of cs) (outputs_of ds) x (subst (λ (l : List Word). In l x) (outputs-append cs ds) h)

pub outputs-left : (cs ds : List Cover) (x : Word) → In (outputs_of cs) x → In (outputs_of (cs ++ ds)) x
outputs-left cs ds x h = subst (λ (l : List Word). In l x) (sym (outputs-append cs ds)) (in_left (outputs_of cs) (outputs_of ds) x h)

pub outputs-right : (cs ds : List Cover) (x : Word) → In (outputs_of ds) x → In (outputs_of (cs ++ ds)) x
outputs-right cs ds x h = subst (λ (l : List Word). In l x) (sym (outputs-append cs ds)) (in_right (outputs_of cs) (outputs_of ds) x h)

-- the output of one more cover
pub last_output : (cs : List Cover) (c : Cover) (x : Word) → In (outputs_of (cs ++ c ∷ [])) x → In (outputs_of cs) x ⊎ (c.output ≡ x)
last_output cs c x h = elim (outputs-in cs (c ∷ []) x h) [ inl a ↦ inl a | inr b ↦ elim b [ inl e ↦ inr e | inr z ↦ absurd z ] ]
