-- What stands at a place of a list, after a map, a write, a push or an append.
use Rattle.std.proofs.Common.{Bool, true, Some, None, List, [], ◌∷◌, ◌++◌, All, add-one, append-nil, length, map, take, drop, get_or, refl, sym, ap, subst, inl, inr, arith, zero, suc, ℕ, ◌+◌, ◌<◌, ◌≤◌, ◌∙◌, ◌≡◌, ◌≢◌, ◌⊎◌}
use Rattle.std.specs.List.{AllByRecursion, list_all, list_any}
use Rattle.std.specs.Prelude.{slice_get, slice_set}
use Rattle.std.proofs.Math.Bool.{or-true}
use Rattle.std.proofs.lemmas.Bool.{and_parts, or_cases}
use Rattle.std.proofs.lemmas.Bool.Decides.{eqb_tells}
use Rattle.std.proofs.lemmas.Option.{get_or_from_slice_get, slice_get_within, slice_get-get_or}
use Rattle.rm_base.specs.declared.numbers.NodeId.{NodeId}

pub map_agree : {A B : Type 0} (v f : A → B) (ds : List A) → ((p : ℕ) (x : A) → slice_get ds p ≡ Some x → v x ≡ f x) → map v ds ≡ map f ds
map_agree v f [] h = refl
map_agree v f (d ∷ ds) h =
    let first : v d ≡ f d = h 0 d refl in
    let rest : map v ds ≡ map f ds = map_agree v f ds (λ p x e. h (suc p) x e) in
    cc

pub map_pointwise : {A B : Type 0} (v w : A → B) → ((x : A) → v x ≡ w x) → (xs : List A) → map v xs ≡ map w xs
map_pointwise v w h [] = refl
map_pointwise v w h (x ∷ xs) = let first : v x ≡ w x = h x in let rest : map v xs ≡ map w xs = map_pointwise v w h xs in cc

pub map_at : {A B : Type 0} (v : A → B) (ds : List A) (q : ℕ) (x : A) → slice_get ds q ≡ Some x → slice_get (map v ds) q ≡ Some (v x)
map_at v [] q x e = cc
map_at v (d ∷ ds) zero x e = let same : d ≡ x = cc in cc
map_at v (d ∷ ds) (suc q) x e = map_at v ds q x e

pub map_found : {A B : Type 0} (f : A → B) (xs : List A) (k : ℕ) (y : B) → slice_get (map f xs) k ≡ Some y → (x : A) × ((slice_get xs k ≡ Some x) × (f x ≡ y))
map_found f [] k y e = cc
map_found f (x ∷ xs) zero y e = (x, (refl, cc))
map_found f (x ∷ xs) (suc k) y e = map_found f xs k y e

pub same-in-map : {A B : Type 0} (v w : A → B) (xs : List A) (p : ℕ) (x : A) → map v xs ≡ map w xs → slice_get xs p ≡ Some x → v x ≡ w x
same-in-map v w [] p x e at = absurd cc
same-in-map v w (y ∷ xs) zero x e at = let is : y ≡ x = cc in let here : v y ≡ w y = cc in ap v (sym is) ∙ (here ∙ ap w is)
same-in-map v w (y ∷ xs) (suc p) x e at = let rest : map v xs ≡ map w xs = cc in same-in-map v w xs p x rest at

pub set_same : {A : Type 0} (v : ℕ → A) (ds : List ℕ) (p d : ℕ) (b : A) → slice_get ds p ≡ Some d → v d ≡ b → slice_set (map v ds) p b ≡ map v ds
set_same v [] p d b e h = refl
set_same v (x ∷ ds) zero d b e h = let same : x ≡ d = cc in let there : v x ≡ b = ap v same ∙ h in cc
set_same v (x ∷ ds) (suc p) d b e h = ap (λ ys. v x ∷ ys) (set_same v ds p d b e h)

pub set_other : {A : Type 0} (xs : List A) (p q : ℕ) (a : A) → (q ≡ p → ⊥) → slice_get (slice_set xs p a) q ≡ slice_get xs q
set_other [] p q a ne = refl
set_other (x ∷ xs) zero zero a ne = absurd (ne refl)
set_other (x ∷ xs) zero (suc q) a ne = refl
set_other (x ∷ xs) (suc p) zero a ne = refl
set_other (x ∷ xs) (suc p) (suc q) a ne = set_other xs p q a (λ e. ne (ap suc e))

pub set_there : {A : Type 0} (xs : List A) (p : ℕ) (a b : A) → slice_get xs p ≡ Some a → slice_get (slice_set xs p b) p ≡ Some b
set_there [] p a b e = cc
set_there (x ∷ xs) zero a b e = refl
set_there (x ∷ xs) (suc p) a b e = set_there xs p a b e

pub map_set : (v : ℕ → Bool) (ds : List ℕ) (p d : ℕ) → map v (slice_set ds p d) ≡ slice_set (map v ds) p (v d)
map_set v [] p d = refl
map_set v (x ∷ ds) zero d = refl
map_set v (x ∷ ds) (suc p) d = ap (λ ys. v x ∷ ys) (map_set v ds p d)

pub map_last_set : (v : ℕ → Bool) (ds : List ℕ) (d : ℕ) (b : Bool) → slice_set (map v (ds ++ d ∷ [])) (length ds) b ≡ map v ds ++ b ∷ []
map_last_set v [] d b = refl
map_last_set v (x ∷ ds) d b = ap (λ ys. v x ∷ ys) (map_last_set v ds d b)

-- what stands in a list after a write
pub set_cases : (ds : List ℕ) (p q d x : ℕ) → slice_get (slice_set ds p d) q ≡ Some x → (x ≡ d) ⊎ (slice_get ds q ≡ Some x)
set_cases [] p q d x e = inr e
set_cases (y ∷ ds) zero zero d x e = inl cc
set_cases (y ∷ ds) zero (suc q) d x e = inr e
set_cases (y ∷ ds) (suc p) zero d x e = inr e
set_cases (y ∷ ds) (suc p) (suc q) d x e = set_cases ds p q d x e

pub last_cases : {A : Type 0} (xs : List A) (x : A) (k : ℕ) (y : A) → slice_get (xs ++ x ∷ []) k ≡ Some y → (slice_get xs k ≡ Some y) ⊎ (y ≡ x)
last_cases [] x zero y e = inr cc
last_cases [] x (suc k) y e = inl e
last_cases (z ∷ xs) x zero y e = inl e
last_cases (z ∷ xs) x (suc k) y e = last_cases xs x k y e

pub front_stands : {A : Type 0} (xs ys : List A) (k : ℕ) (x : A) → slice_get xs k ≡ Some x → slice_get (xs ++ ys) k ≡ Some x
front_stands [] ys k x e = absurd (cc)
front_stands (a ∷ xs) ys zero x e = e
front_stands (a ∷ xs) ys (suc k) x e = front_stands xs ys k x e

pub back_stands : {A : Type 0} (xs ys : List A) (k : ℕ) (x : A) → slice_get ys k ≡ Some x → (j : ℕ) × (slice_get (xs ++ ys) j ≡ Some x)
back_stands [] ys k x e = (k, e)
back_stands (a ∷ xs) ys k x e = let rest = back_stands xs ys k x e in (suc rest.0, rest.1)

pub pushed_stands : {X : Type 0} (xs : List X) (y : X) (p : ℕ) (x : X) → slice_get (xs ++ y ∷ []) p ≡ Some x → (slice_get xs p ≡ Some x) ⊎ ((p ≡ length xs) × (x ≡ y))
pushed_stands [] y zero x e = let is : y ≡ x = cc in inr (refl, sym is)
pushed_stands [] y (suc p) x e = absurd cc
pushed_stands (z ∷ xs) y zero x e = inl e
pushed_stands (z ∷ xs) y (suc p) x e = elim (pushed_stands xs y p x e) [ inl h ↦ inl h | inr h ↦ inr (ap suc h.0, h.1) ]

pub seam_stands : {A : Type 0} (xs : List A) (x : A) (rest : List A) → slice_get (xs ++ x ∷ rest) (length xs) ≡ Some x
seam_stands [] x rest = refl
seam_stands (y ∷ xs) x rest = seam_stands xs x rest

-- what was pushed stands last
pub last_stands : {A : Type 0} (xs : List A) (x : A) → slice_get (xs ++ x ∷ []) (length xs) ≡ Some x
last_stands [] x = refl
last_stands (y ∷ xs) x = last_stands xs x

pub only_stands : (d p z : ℕ) → slice_get (d ∷ []) p ≡ Some z → z ≡ d
only_stands d zero z e = cc
only_stands d (suc p) z e = cc

pub one_stands : {A : Type 0} (xs : List A) (k : ℕ) (a b : A) → slice_get xs k ≡ Some a → slice_get xs k ≡ Some b → a ≡ b
one_stands xs k a b e f = cc

-- something stands at each place below the length
pub stands_below : {A : Type 0} (xs : List A) (k : ℕ) → k < length xs → (x : A) × (slice_get xs k ≡ Some x)
stands_below [] k lt = absurd (omega (arith, lt))
stands_below (x ∷ xs) zero lt = (x, refl)
stands_below (x ∷ xs) (suc k) lt = stands_below xs k (omega (arith, lt))

pub slice_get_below : {A : Type 0} (xs : List A) (x : ℕ) → slice_get xs x ≢ None → x < length xs
slice_get_below [] x h = absurd (h refl)
slice_get_below (y ∷ xs) zero h = omega arith
slice_get_below (y ∷ xs) (suc x) h = let rest : x < length xs = slice_get_below xs x h in omega arith

pub read_stands : {A : Type 0} (xs : List A) (k : ℕ) (x : A) → k < length xs → x ≡ get_or xs k x → slice_get xs k ≡ Some x
read_stands {A = A} xs k x lt is = at xs k lt ∙ ap (λ (y : A). Some y) (sym is)
  where
    at : (ys : List A) (j : ℕ) → j < length ys → slice_get ys j ≡ Some (get_or ys j x)
    at [] j lt = absurd (omega (arith, lt))
    at (y ∷ ys) zero lt = refl
    at (y ∷ ys) (suc j) lt = at ys j (omega (arith, lt))

-- the number is in the list, or isn't
pub stands_or_not : (xs : List ℕ) (x : ℕ) → ((k : ℕ) × (slice_get xs k ≡ Some x)) ⊎ ((k : ℕ) → slice_get xs k ≡ Some x → ⊥)
stands_or_not [] x = inr (λ k e. let wrong : None ≡ Some x = e in cc)
stands_or_not (y ∷ xs) x = elim (eqb_tells y x) [
  | inl same ↦ inl (0, ap Some same.1)
  | inr other ↦ elim (stands_or_not xs x) [
    | inl there ↦ inl (suc there.0, there.1)
    | inr none ↦ inr (λ k. at k other.1 none)
  ]
]
  where
    at : (k : ℕ) → y ≢ x → ((k : ℕ) → slice_get xs k ≡ Some x → ⊥) → slice_get (y ∷ xs) k ≡ Some x → ⊥
    at zero ne none e = ne cc
    at (suc k) ne none e = none k e

pub take_one_more : {A : Type 0} (xs : List A) (k : ℕ) (x : A) → slice_get xs k ≡ Some x → take (k + 1) xs ≡ take k xs ++ x ∷ []
take_one_more {A = A} xs k x e = rw add-one (at xs k e)
  where
    at : (xs : List A) (k : ℕ) → slice_get xs k ≡ Some x → take (suc k) xs ≡ take k xs ++ x ∷ []
    at [] k e = cc
    at (y ∷ xs) zero e = let is : y ≡ x = cc in ap (λ (z : A). z ∷ []) is
    at (y ∷ xs) (suc k) e = ap (λ (zs : List A). y ∷ zs) (at xs k e)

pub take_zero : {A : Type 0} (xs : List A) → take 0 xs ≡ []
take_zero [] = refl
take_zero (x ∷ xs) = refl

-- a part of a text is one of a longer text
pub take_of_longer : (a b : List ℕ) (k : ℕ) → (m : ℕ) × (take k a ≡ take m (a ++ b))
take_of_longer [] b zero = (0, sym (take_zero b))
take_of_longer [] b (suc k) = (0, sym (take_zero b))
take_of_longer (x ∷ a) b zero = (0, refl)
take_of_longer (x ∷ a) b (suc k) = let r : (m : ℕ) × (take k a ≡ take m (a ++ b)) = take_of_longer a b k in (suc r.0, ap (λ (xs : List ℕ). x ∷ xs) r.1)

pub drop_stands : {A : Type 0} (xs : List A) (q : ℕ) (x : A) → slice_get xs q ≡ Some x → drop q xs ≡ x ∷ drop (suc q) xs
drop_stands [] q x e = cc
drop_stands (y ∷ xs) zero x e = let same : y ≡ x = cc in ap (λ z. z ∷ xs) same
drop_stands (y ∷ xs) (suc q) x e = drop_stands xs q x e

pub drop_end : {A : Type 0} (xs : List A) (q : ℕ) → length xs ≤ q → drop q xs ≡ []
drop_end [] zero h = refl
drop_end [] (suc q) h = refl
drop_end (x ∷ xs) zero h = absurd (omega arith)
drop_end (x ∷ xs) (suc q) h = drop_end xs q (omega arith)

-- what comes first from a place on stands there
pub first_of_drop : (xs rest : List ℕ) (k p : ℕ) → drop k xs ≡ p ∷ rest → slice_get xs k ≡ Some p
first_of_drop [] rest zero p e = cc
first_of_drop [] rest (suc k) p e = cc
first_of_drop (x ∷ xs) rest zero p e = cc
first_of_drop (x ∷ xs) rest (suc k) p e = first_of_drop xs rest k p e

pub length_set : (ds : List ℕ) (p c : ℕ) → length (slice_set ds p c) ≡ length ds
length_set [] p c = refl
length_set (x ∷ ds) zero c = refl
length_set (x ∷ ds) (suc p) c = ap suc (length_set ds p c)

pub tail_same : {A : Type 0} {x y : A} {xs ys : List A} → x ∷ xs ≡ y ∷ ys → xs ≡ ys
tail_same e = cc

-- the number of a node of a list
pub number_at : (order : List NodeId) (i : ℕ) (r : NodeId) → i < length order → slice_get (map (λ n. n.0) order) i ≡ Some (get_or order i r).0
number_at [] i r h = absurd (omega arith)
number_at (n ∷ order) zero r h = refl
number_at (n ∷ order) (suc i) r h = number_at order i r (omega arith)

-- the yielded_whole list has been yielded
pub yielded_whole : {A : Type 0} (f : A → ℕ) (all : List ℕ) (before : List A) (rest : List ℕ) → all ≡ map f before ++ rest → rest ≡ [] → all ≡ map f before
yielded_whole f all before rest e none = rw none at e ∙ append-nil (map f before)

pub any_at : (test : ℕ → Bool) (ds : List ℕ) → list_any test ds ≡ true → (p : ℕ) × ((x : ℕ) × ((slice_get ds p ≡ Some x) × (test x ≡ true)))
any_at test [] e = cc
any_at test (d ∷ ds) e = elim (or_cases (test d) (list_any test ds) e) [
  | inl here ↦ (0, (d, (refl, here)))
  | inr later ↦ let rest : (p : ℕ) × ((x : ℕ) × ((slice_get ds p ≡ Some x) × (test x ≡ true))) = any_at test ds later in (suc rest.0, (rest.1.0, rest.1.1))
]

pub at_any : (test : ℕ → Bool) (ds : List ℕ) (p x : ℕ) → slice_get ds p ≡ Some x → test x ≡ true → list_any test ds ≡ true
at_any test [] p x there e = cc
at_any test (d ∷ ds) zero x there e = let is : d ≡ x = cc in rw (is, e) refl
at_any test (d ∷ ds) (suc p) x there e = rw (at_any test ds p x there e) (or-true (test d))

pub list_all-parts : {X : Type 0} (p : X → Bool) (xs ys : List X) → list_all p (xs ++ ys) ≡ true → (list_all p xs ≡ true) × (list_all p ys ≡ true)
list_all-parts p [] ys e = (refl, e)
list_all-parts p (x ∷ xs) ys e =
    let parts = and_parts (p x) (list_all p (xs ++ ys)) e in
    let rest = list_all-parts p xs ys parts.1 in
    (rw (parts.0, rest.0) refl, rest.1)

pub list_all-join : {X : Type 0} (p : X → Bool) (xs ys : List X) → list_all p xs ≡ true → list_all p ys ≡ true → list_all p (xs ++ ys) ≡ true
list_all-join p [] ys e f = f
list_all-join p (x ∷ xs) ys e f = let parts = and_parts (p x) (list_all p xs) e in rw (parts.0, list_all-join p xs ys parts.1 f) refl

pub list_all-at : {X : Type 0} (p : X → Bool) (xs : List X) (k : ℕ) (x : X) → list_all p xs ≡ true → slice_get xs k ≡ Some x → p x ≡ true
list_all-at p [] k x e at = absurd cc
list_all-at p (y ∷ xs) zero x e at = let is : y ≡ x = cc in subst (λ (z : _). p z ≡ true) is (and_parts (p y) (list_all p xs) e).0
list_all-at p (y ∷ xs) (suc k) x e at = list_all-at p xs k x (and_parts (p y) (list_all p xs) e).1 at

pub all_at : {X : Type 0} (P : X → Type 0) (xs : List X) (k : ℕ) (x : X) → All P xs → slice_get xs k ≡ Some x → P x
all_at P xs k x h e = subst P (get_or_from_slice_get xs k x x e) (h k x (slice_get_within xs k x e))

pub all_from_places : {X : Type 0} (P : X → Type 0) (xs : List X) → ((k : ℕ) (x : X) → slice_get xs k ≡ Some x → P x) → All P xs
all_from_places P xs h k d lt = h k _ (slice_get-get_or xs k d lt)

pub all_append : {A : Type 0} (P : A → Type 0) (xs ys : List A) → AllByRecursion P xs → AllByRecursion P ys → AllByRecursion P (xs ++ ys)
all_append P [] ys h k = k
all_append P (x ∷ xs) ys h k = (h.0, all_append P xs ys h.1 k)
