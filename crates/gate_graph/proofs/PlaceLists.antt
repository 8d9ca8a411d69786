-- Lists of readers and places in them.
use Rattle.std.proofs.Common.{◌≡◌, ◌≢◌, ℕ, zero, suc, ◌+◌, true, false, ◌⊎◌, inl, inr, List, [], ◌∷◌, ◌++◌, length, map, Some, refl, sym, ap, ◌∙◌, arith}
use Rattle.std.specs.Prelude.{slice_get}
use Rattle.std.proofs.lemmas.Bool.{cases_eq, cases_Bool, ne_eqb, eq-eqb, false≢true, or_left, or_right}
use Rattle.std.proofs.lemmas.Bool.Decides.{eqb_tells, nat_tests}
use Rattle.pin_pool.specs.Ring.{has, without, IsApart}
use Rattle.gate_graph.specs.Circuit.{place_in, without_observed}
use Rattle.gate_graph.specs.Spots.{places_from, without_gate}
use Rattle.pin_pool.proofs.Public.{has-there}

-- readers that stay
pub readers-same : (f g : ℕ → ℕ × ℕ) (obs xs : List ℕ) → ((q : ℕ) → has q xs ≡ true → has q obs ≡ false → f q ≡ g q) → map f (without_observed obs xs) ≡ map g (without_observed obs xs)
readers-same f g obs [] h = refl
readers-same f g obs (x ∷ xs) h =
    let rest = readers-same f g obs xs (λ q k. h q (grind (arith, nat_tests))) in
    elim (cases_Bool (has x obs)) [
      | inl seen ↦ rw seen rest
      | inr free ↦ rw (free, h x (grind (arith, nat_tests)) free, rest) refl
    ]

pub observed-append : (obs xs ys : List ℕ) → without_observed obs (xs ++ ys) ≡ without_observed obs xs ++ without_observed obs ys
observed-append obs [] ys = refl
observed-append obs (x ∷ xs) ys = elim (cases_Bool (has x obs)) [
  | inl seen ↦ rw seen (observed-append obs xs ys)
  | inr free ↦ rw (free, observed-append obs xs ys) refl
]

pub place-push : (xs : List ℕ) (p q : ℕ) → has q xs ≡ true → place_in (xs ++ p ∷ []) q ≡ place_in xs q
place-push [] p q h = cc
place-push (x ∷ xs) p q h = elim (eqb_tells q x) [
  | inl t ↦ rw t.0 refl
  | inr t ↦ let later : has q xs ≡ true = rw t.0 at h in rw (t.0, place-push xs p q later) refl
]

pub place-last : (xs : List ℕ) (p : ℕ) → has p xs ≡ false → place_in (xs ++ p ∷ []) p ≡ length xs
place-last [] p h = rw (eq-eqb p p refl) refl
place-last (x ∷ xs) p h = elim (eqb_tells p x) [
  | inl t ↦ absurd (let wrong : true ≡ false = rw t.0 at h in cc)
  | inr t ↦ let later : has p xs ≡ false = rw t.0 at h in rw (t.0, place-last xs p later) refl
]

pub place-at : (xs : List ℕ) (k p : ℕ) → IsApart xs → slice_get xs k ≡ Some p → place_in xs p ≡ k
place-at [] k p a h = cc
place-at (x ∷ xs) zero p a h = let is : x ≡ p = cc in rw (is, eq-eqb p p refl) refl
place-at (x ∷ xs) (suc k) p a h =
    let ne : p ≢ x = λ is. false≢true (sym a.0 ∙ ap (λ (q : ℕ). has q xs) (sym is) ∙ has-there xs k p h) in
    rw (ne_eqb p x ne, place-at xs k p a.1 h) refl

pub at-place : (xs : List ℕ) (q : ℕ) → has q xs ≡ true → slice_get xs (place_in xs q) ≡ Some q
at-place [] q h = cc
at-place (x ∷ xs) q h = elim (eqb_tells q x) [
  | inl t ↦ rw (t.1, eq-eqb x x refl) refl
  | inr t ↦ let later : has q xs ≡ true = rw t.0 at h in rw t.0 (at-place xs q later)
]

-- a pin that is observed beside others isn't read by a gate
pub observed-push : (obs xs : List ℕ) (p : ℕ) → has p xs ≡ false → without_observed (obs ++ p ∷ []) xs ≡ without_observed obs xs
observed-push obs [] p out = refl
observed-push obs (x ∷ xs) p out =
    let ne : p ≢ x = λ is. false≢true (sym out ∙ or_left _ _ (eq-eqb p x is)) in
    let later : has p xs ≡ false = rw (ne_eqb p x ne) at out in
    let same : has x (obs ++ p ∷ []) ≡ has x obs = has-beside obs p x (λ is. ne (sym is)) in
    let rest = observed-push obs xs p later in
    elim (cases_Bool (has x obs)) [
      | inl seen ↦ rw (same, seen) rest
      | inr free ↦ rw (same, free) (ap (λ (l : List ℕ). x ∷ l) rest)
    ]
  where
    has-beside : (obs : List ℕ) (p x : ℕ) → x ≢ p → has x (obs ++ p ∷ []) ≡ has x obs
    has-beside [] p x ne = rw (ne_eqb x p ne) refl
    has-beside (o ∷ obs) p x ne = rw (has-beside obs p x ne) refl

pub observed-self : (obs : List ℕ) (p : ℕ) → without_observed (obs ++ p ∷ []) (p ∷ []) ≡ []
observed-self obs p = rw (last obs) refl
  where
    last : (obs : List ℕ) → has p (obs ++ p ∷ []) ≡ true
    last [] = or_left _ _ (eq-eqb p p refl)
    last (o ∷ obs) = or_right _ _ (last obs)

-- the places of a longer list of drivers
places-push : (g k : ℕ) (ds : List ℕ) (d n : ℕ) → places_from g k (ds ++ d ∷ []) n ≡ places_from g k ds n ++ places_from g (k + length ds) (d ∷ []) n
places-push g k [] d n = ap (λ (j : ℕ). places_from g j (d ∷ []) n) (let e : k ≡ k + 0 = omega arith in e)
places-push g k (x ∷ ds) d n =
    let rest : places_from g (suc k) (ds ++ d ∷ []) n ≡ places_from g (suc k) ds n ++ places_from g (k + suc (length ds)) (d ∷ []) n =
    places-push g (suc k) ds d n ∙ ap (λ (j : ℕ). places_from g (suc k) ds n ++ places_from g j (d ∷ []) n) (let e : suc k + length ds ≡ k + suc (length ds) = omega arith in e) in
    elim (cases_eq x n) [
      | inl is ↦ rw (eq-eqb x n is) (ap (λ (l : List (ℕ × ℕ)). (g, k) ∷ l) rest)
      | inr ne ↦ rw (ne_eqb x n ne) rest
    ]

pub places-start : (g : ℕ) (ds : List ℕ) (d n : ℕ) → places_from g 0 (ds ++ d ∷ []) n ≡ places_from g 0 ds n ++ places_from g (length ds) (d ∷ []) n
places-start g ds d n = places-push g 0 ds d n ∙ ap (λ (k : ℕ). places_from g 0 ds n ++ places_from g k (d ∷ []) n) (let e : 0 + length ds ≡ length ds = omega arith in e)

pub places-one : (g k d n : ℕ) → d ≡ n → places_from g k (d ∷ []) n ≡ (g, k) ∷ []
places-one g k d n is = rw (eq-eqb d n is) refl

pub places-none : (g k d n : ℕ) → d ≢ n → places_from g k (d ∷ []) n ≡ []
places-none g k d n ne = rw (ne_eqb d n ne) refl

-- the same readers, but for those of one gate
abbrev pub AreAlike : (ℕ → ℕ × ℕ) → (ℕ → ℕ × ℕ) → ℕ → ℕ → Type 0
AreAlike f h g q = (((f q).0 ≡ g) × ((h q).0 ≡ g)) ⊎ (h q ≡ f q)

strip-head : (g : ℕ) (x y : ℕ × ℕ) (xs ys : List (ℕ × ℕ)) → ((x.0 ≡ g) × (y.0 ≡ g)) ⊎ (y ≡ x) → without_gate g ys ≡ without_gate g xs → without_gate g (y ∷ ys) ≡ without_gate g (x ∷ xs)
strip-head g x y xs ys (inl both) e = rw (eq-eqb x.0 g both.0, eq-eqb y.0 g both.1) e
strip-head g x y xs ys (inr same) e = rw same (elim (cases_eq x.0 g) [
  | inl is ↦ rw (eq-eqb x.0 g is) e
  | inr ne ↦ rw (ne_eqb x.0 g ne) (ap (λ (l : List (ℕ × ℕ)). x ∷ l) e)
])

pub strip-same : (f h : ℕ → ℕ × ℕ) (g : ℕ) (obs xs : List ℕ) → ((q : ℕ) → has q xs ≡ true → AreAlike f h g q) → without_gate g (map h (without_observed obs xs)) ≡ without_gate g (map f (without_observed obs xs))
strip-same f h g obs [] alike = refl
strip-same f h g obs (x ∷ xs) alike =
    let rest = strip-same f h g obs xs (λ q k. alike q (or_right _ _ k)) in
    elim (cases_Bool (has x obs)) [
      | inl seen ↦ rw seen rest
      | inr free ↦ rw free (strip-head g (f x) (h x) _ _ (alike x (or_left _ _ (eq-eqb x x refl))) rest)
    ]

-- one pin of the gate goes
pub strip-one : (f h : ℕ → ℕ × ℕ) (g p : ℕ) (obs xs : List ℕ) → IsApart xs → (f p).0 ≡ g → ((q : ℕ) → has q xs ≡ true → q ≢ p → AreAlike f h g q) → without_gate g (map h (without_observed obs (without p xs))) ≡ without_gate g (map f (without_observed obs xs))
strip-one f h g p obs [] a of alike = refl
strip-one f h g p obs (x ∷ xs) a of alike = elim (cases_eq p x) [
  | inl is ↦
      let out : (q : ℕ) → has q xs ≡ true → q ≢ p = λ q k s. false≢true (sym a.0 ∙ ap (λ (r : ℕ). has r xs) (sym (s ∙ is)) ∙ k) in
      let rest = strip-same f h g obs xs (λ q k. alike q (or_right _ _ k) (out q k)) in
      let gate : (f x).0 ≡ g = ap (λ (q : ℕ). (f q).0) (sym is) ∙ of in
      rw (eq-eqb p x is) (elim (cases_Bool (has x obs)) [
        | inl seen ↦ rw seen rest
        | inr free ↦ rw free (rw (eq-eqb (f x).0 g gate) rest)
      ])
  | inr ne ↦
      let rest = strip-one f h g p obs xs a.1 of (λ q k. alike q (or_right _ _ k)) in
      rw (ne_eqb p x ne) (elim (cases_Bool (has x obs)) [
        | inl seen ↦ rw seen rest
        | inr free ↦ rw free (strip-head g (f x) (h x) _ _ (alike x (or_left _ _ (eq-eqb x x refl)) (λ s. ne (sym s))) rest)
      ])
]

-- no pin of the gate is there
pub strip-none : (f : ℕ → ℕ × ℕ) (g : ℕ) (obs xs : List ℕ) → ((q : ℕ) → has q xs ≡ true → (f q).0 ≢ g) → without_gate g (map f (without_observed obs xs)) ≡ map f (without_observed obs xs)
strip-none f g obs [] other = refl
strip-none f g obs (x ∷ xs) other =
    let rest = strip-none f g obs xs (λ q k. other q (or_right _ _ k)) in
    elim (cases_Bool (has x obs)) [
      | inl seen ↦ rw seen rest
      | inr free ↦ rw free (rw (ne_eqb (f x).0 g (other x (or_left _ _ (eq-eqb x x refl)))) (ap (λ (l : List (ℕ × ℕ)). f x ∷ l) rest))
    ]

pub append-three : {A : Type 0} (xs ys zs : List A) → (xs ++ ys) ++ zs ≡ xs ++ (ys ++ zs)
append-three [] ys zs = refl
append-three (x ∷ xs) ys zs = ap (λ (l : List _). x ∷ l) (append-three xs ys zs)
