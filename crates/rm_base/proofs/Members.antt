-- Elements of a list.
use Rattle.std.proofs.Common.{◌≡◌, ◌<◌, ◌+◌, ℕ, zero, suc, Bool, true, false, cond, List, [], ◌∷◌, ◌++◌, length, map, get_or, refl, sym, ap, ◌∙◌, ◌⊎◌, inl, inr, arith}
use Rattle.std.specs.Prelude.{◌&&◌, Some, None, position, slice_get, filter, Contains}
use Rattle.std.specs.List.{list_any, list_all, AllByRecursion, position_from}
use Rattle.std.proofs.lemmas.Bool.{or_cases, or_left, or_right}
use Rattle.std.proofs.lemmas.Iterator.Adapters.{position_from-zero}
use Rattle.rm_base.specs.Members.{In}

pub in_append : {A : Type 0} (xs ys : List A) (y : A) → In (xs ++ ys) y → In xs y ⊎ In ys y
in_append [] ys y h = inr h
in_append (x ∷ xs) ys y (inl e) = inl (inl e)
in_append (x ∷ xs) ys y (inr h) = elim (in_append xs ys y h) [ inl a ↦ inl (inr a) | inr b ↦ inr b ]

pub in_left : {A : Type 0} (xs ys : List A) (y : A) → In xs y → In (xs ++ ys) y
in_left [] ys y h = absurd h
in_left (x ∷ xs) ys y (inl e) = inl e
in_left (x ∷ xs) ys y (inr h) = inr (in_left xs ys y h)

pub in_right : {A : Type 0} (xs ys : List A) (y : A) → In ys y → In (xs ++ ys) y
in_right [] ys y h = h
in_right (x ∷ xs) ys y h = inr (in_right xs ys y h)

pub in_filter : {A : Type 0} (test : A → Bool) (xs : List A) (y : A) → In (filter test xs) y → In xs y × (test y ≡ true)
in_filter test [] y h = absurd h
in_filter test (x ∷ xs) y h = by_test (test x) refl (in_filter test xs y) h
  where
    by_test : (b : Bool) → test x ≡ b → (In (filter test xs) y → In xs y × (test y ≡ true)) → In (cond b (x ∷ filter test xs) (filter test xs)) y → ((x ≡ y) ⊎ In xs y) × (test y ≡ true)
    by_test true is next (inl e) = (inl e, ap test (sym e) ∙ is)
    by_test true is next (inr h) = let r = next h in (inr r.0, r.1)
    by_test false is next h = let r = next h in (inr r.0, r.1)

pub in_filtered : {A : Type 0} (test : A → Bool) (xs : List A) (y : A) → In xs y → test y ≡ true → In (filter test xs) y
in_filtered test [] y h t = absurd h
in_filtered test (x ∷ xs) y h t = by_test (test x) refl (λ m. in_filtered test xs y m t) h
  where
    by_test : (b : Bool) → test x ≡ b → (In xs y → In (filter test xs) y) → (x ≡ y) ⊎ In xs y → In (cond b (x ∷ filter test xs) (filter test xs)) y
    by_test true is next (inl e) = inl e
    by_test true is next (inr h) = inr (next h)
    by_test false is next (inl e) = let bad : true ≡ false = sym t ∙ (ap test (sym e) ∙ is) in absurd cc
    by_test false is next (inr h) = next h

pub in_map : {A B : Type 0} (f : A → B) (xs : List A) (y : B) → In (map f xs) y → (x : A) × (In xs x × (f x ≡ y))
in_map f [] y h = absurd h
in_map f (x ∷ xs) y (inl e) = (x, (inl refl, e))
in_map f (x ∷ xs) y (inr h) = let r = in_map f xs y h in (r.0, (inr r.1.0, r.1.1))

pub in_mapped : {A B : Type 0} (f : A → B) (xs : List A) (x : A) → In xs x → In (map f xs) (f x)
in_mapped f [] x h = absurd h
in_mapped f (y ∷ xs) x (inl e) = inl (ap f e)
in_mapped f (y ∷ xs) x (inr h) = inr (in_mapped f xs x h)

pub in_at : {A : Type 0} (xs : List A) (k : ℕ) (x : A) → slice_get xs k ≡ Some x → In xs x
in_at [] k x e = absurd cc
in_at (y ∷ xs) zero x e = inl cc
in_at (y ∷ xs) (suc k) x e = inr (in_at xs k x e)

pub in_contains : {A : Type 0} (xs : List A) (x : A) → In xs x → Contains xs x
in_contains [] x h = absurd h
in_contains (y ∷ xs) x (inl e) = (0, omega arith, e)
in_contains (y ∷ xs) x (inr h) = let r = in_contains xs x h in (suc r.0, omega (arith, r.1), r.2)

pub in_contained : {A : Type 0} (xs : List A) (x : A) (k : ℕ) → k < length xs → get_or xs k x ≡ x → In xs x
in_contained [] x k lt e = absurd (omega arith)
in_contained (y ∷ xs) x zero lt e = inl e
in_contained (y ∷ xs) x (suc k) lt e = inr (in_contained xs x k (omega arith) e)

pub all_in : {A : Type 0} (P : A → Type 0) (xs : List A) (x : A) → AllByRecursion P xs → In xs x → P x
all_in P [] x h m = absurd m
all_in P (y ∷ xs) x h (inl e) = let Q : _ → Type 0 = P in rw (← e) h.0
all_in P (y ∷ xs) x h (inr m) = all_in P xs x h.1 m

pub place_of_member : {A : Type 0} (xs : List A) (x : A) → In xs x → (k : ℕ) × (slice_get xs k ≡ Some x)
place_of_member [] x h = absurd h
place_of_member (y ∷ xs) x (inl e) = (0, ap (λ (z : _). Some z) e)
place_of_member (y ∷ xs) x (inr h) = let r = place_of_member xs x h in (suc r.0, r.1)

pub all_from_members : {A : Type 0} (P : A → Type 0) (xs : List A) → ((x : A) → In xs x → P x) → AllByRecursion P xs
all_from_members P [] h = tt
all_from_members P (x ∷ xs) h = (h x (inl refl), all_from_members P xs (λ y m. h y (inr m)))

-- P at each place
pub all_by_index : {A : Type 0} (P : A → Type 0) (xs : List A) → ((k : ℕ) (d : A) → k < length xs → P (get_or xs k d)) → AllByRecursion P xs
all_by_index P [] h = tt
all_by_index P (x ∷ xs) h = (h 0 x (omega arith), all_by_index P xs (λ k d lt. h (suc k) d (omega arith)))

pub any_in : {A : Type 0} (test : A → Bool) (xs : List A) (x : A) → In xs x → test x ≡ true → list_any test xs ≡ true
any_in test [] x h t = absurd h
any_in test (y ∷ xs) x (inl e) t = or_left (test y) (list_any test xs) (ap test e ∙ t)
any_in test (y ∷ xs) x (inr h) t = or_right (test y) (list_any test xs) (any_in test xs x h t)

pub in_any : {A : Type 0} (test : A → Bool) (xs : List A) → list_any test xs ≡ true → (x : A) × (In xs x × (test x ≡ true))
in_any test [] e = absurd cc
in_any test (y ∷ xs) e =
    elim (or_cases (test y) (list_any test xs) e) [
      | inl t ↦ (y, (inl refl, t))
      | inr t ↦ let r = in_any test xs t in (r.0, (inr r.1.0, r.1.1))
    ]

pub all_pass_in : {A : Type 0} (test : A → Bool) (xs : List A) (x : A) → list_all test xs ≡ true → In xs x → test x ≡ true
all_pass_in test [] x e h = absurd h
all_pass_in test (y ∷ xs) x e h = by_test (test y) refl (all_pass_in test xs x) e h
  where
    by_test : (b : Bool) → test y ≡ b → (list_all test xs ≡ true → In xs x → test x ≡ true) → (b && list_all test xs) ≡ true → (y ≡ x) ⊎ In xs x → test x ≡ true
    by_test true t next e (inl same) = ap test (sym same) ∙ t
    by_test true t next e (inr h) = next e h
    by_test false t next e h = absurd cc

-- where no place is found, no element passes
none_from : {A : Type 0} (test : A → Bool) (i : ℕ) (xs : List A) → position_from test i xs ≡ None → AllByRecursion (λ x. test x ≡ false) xs
none_from test i [] e = tt
none_from test i (x ∷ xs) e = by_test (test x) refl (none_from test (i + 1) xs) e
  where
    by_test : (b : Bool) → test x ≡ b → (position_from test (i + 1) xs ≡ None → AllByRecursion (λ y. test y ≡ false) xs) → cond b (Some i) (position_from test (i + 1) xs) ≡ None → (test x ≡ false) × AllByRecursion (λ y. test y ≡ false) xs
    by_test true is next e = absurd cc
    by_test false is next e = (is, next e)

pub none_found : {A : Type 0} (test : A → Bool) (xs : List A) → position test xs ≡ None → AllByRecursion (λ x. test x ≡ false) xs
none_found test xs e = none_from test 0 xs (sym (position_from-zero test xs) ∙ e)
