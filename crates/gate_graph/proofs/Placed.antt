-- Where a pin stands among those of its gate, and which pins are read on.
use Rattle.std.proofs.Common.{◌≡◌, ◌≢◌, ℕ, suc, Bool, true, false, List, [], ◌∷◌, ◌++◌, length, map, Some, refl, sym, ap, ◌∙◌, inl, inr, ◌⊎◌}
use Rattle.std.specs.Prelude.{slice_get}
use Rattle.std.proofs.lemmas.Bool.{cases_eq, ne_eqb, eq-eqb, or_right}
use Rattle.pin_pool.specs.Ring.{has}
use Rattle.std.specs.Option.{option_map}
use Rattle.std.specs.Prelude.{IsTrue, ◌↔◌}
use Rattle.std.proofs.lemmas.Option.{slice_get-map}
use Rattle.std.proofs.lemmas.Bool.{or_left, false≢true}
use Rattle.gate_net.specs.Net.{IsObserved}
use Rattle.pin_pool.specs.Pins.{Pins, list_of}
use Rattle.pin_pool.specs.Rings.{AreRings, rings_of}
use Rattle.gate_graph.specs.Wirings.{IsShaped}
use Rattle.gate_graph.specs.Circuit.{Circuit, wiring, net_of, fanouts_of, home, reader, place_in, without_observed}
use Rattle.gate_graph.proofs.NetOf.{observed-net, home-here}
use Rattle.gate_graph.proofs.Ranked.{some-at, mapped}
use Rattle.pin_pool.proofs.Public.{has-there}

pub place-found : (ys rest : List ℕ) (p : ℕ) → has p ys ≡ false → length ys ≡ place_in (ys ++ p ∷ rest) p
place-found [] rest p h = rw (eq-eqb p p refl) refl
place-found (y ∷ ys) rest p h = elim (cases_eq p y) [
  | inl is ↦ let wrong : true ≡ false = sym (rw (eq-eqb p y is) refl) ∙ h in cc
  | inr ne ↦ let later : has p ys ≡ false = rw (ne_eqb p y ne) at h in rw (ne_eqb p y ne) (ap suc (place-found ys rest p later))
]

pub has-front : (ps qs : List ℕ) (p : ℕ) → ps ≡ p ∷ qs → has p ps ≡ true
has-front ps qs p e = ap (has p) e ∙ or_left _ _ (eq-eqb p p refl)

pub skipped : (seen ps qs : List ℕ) (p : ℕ) → ps ≡ p ∷ qs → has p seen ≡ true → without_observed seen qs ≡ without_observed seen ps
skipped seen ps qs p e h = rw (e, h) refl

pub kept-first : (seen ps qs : List ℕ) (p : ℕ) → ps ≡ p ∷ qs → has p seen ≡ false → without_observed seen ps ≡ p ∷ without_observed seen qs
kept-first seen ps qs p e h = rw (e, h) refl

pub map-push : {A : Type 0} (f : A → ℕ) (ys : List A) (x : A) (rest : List ℕ) → map f ys ++ f x ∷ rest ≡ map f (ys ++ x ∷ []) ++ rest
map-push f [] x rest = refl
map-push f (y ∷ ys) x rest = ap (λ (l : List ℕ). f y ∷ l) (map-push f ys x rest)

pub has-map-push : {A : Type 0} (f : A → ℕ) (ys : List A) (x : A) (p : ℕ) → has p (map f ys) ≡ false → p ≢ f x → has p (map f (ys ++ x ∷ [])) ≡ false
has-map-push f [] x p h ne = rw (ne_eqb p (f x) ne) refl
has-map-push f (y ∷ ys) x p h ne = elim (cases_eq p (f y)) [
  | inl is ↦ let wrong : true ≡ false = sym (or_left _ _ (eq-eqb p (f y) is)) ∙ h in cc
  | inr ne' ↦ let later : has p (map f ys) ≡ false = rw (ne_eqb p (f y) ne') at h in rw (ne_eqb p (f y) ne') (has-map-push f ys x p later ne)
]

pub has-pushed : {A : Type 0} (f : A → ℕ) (ys : List A) (x : A) (p : ℕ) → has p (map f (ys ++ x ∷ [])) ≡ true → (has p (map f ys) ≡ true) ⊎ (p ≡ f x)
has-pushed f [] x p h = elim (cases_eq p (f x)) [
  | inl is ↦ inr is
  | inr ne ↦ let wrong : false ≡ true = rw (ne_eqb p (f x) ne) at h in cc
]
has-pushed f (y ∷ ys) x p h = elim (cases_eq p (f y)) [
  | inl is ↦ inl (or_left _ _ (eq-eqb p (f y) is))
  | inr ne ↦
      let later : has p (map f (ys ++ x ∷ [])) ≡ true = rw (ne_eqb p (f y) ne) at h in
      elim (has-pushed f ys x p later) [ inl old ↦ inl (or_right _ _ old) | inr is ↦ inr is ]
]

pub has-middle : (xs ys rest : List ℕ) (p : ℕ) → xs ≡ ys ++ p ∷ rest → has p xs ≡ true
has-middle xs ys rest p e = ap (has p) e ∙ by ys
  where
    by : (ys : List ℕ) → has p (ys ++ p ∷ rest) ≡ true
    by [] = or_left _ _ (eq-eqb p p refl)
    by (y ∷ ys) = or_right _ _ (by ys)

pub fanouts-are : (v : Circuit) (n : ℕ) → map (reader v.pool) (without_observed (list_of v.pool.inputs 0) (list_of v.pool.fanouts n)) ≡ fanouts_of v n
unfolding fanouts_of
fanouts-are v n = refl

pub reader-at : (v : Pins) (p g k : ℕ) → AreRings (rings_of v) → has p (list_of v.inputs g) ≡ true → k ≡ place_in (list_of v.inputs g) p → (let x : ℕ × ℕ = (g, k) in reader v p ≡ x)
reader-at v p g k r h e =
    let is : home v.inputs p ≡ g = home-here v.inputs _ p g r.inputs h in
    rw (is, e) refl

module _ (v : Circuit) (rv : AreRings (rings_of v.pool)) (s : IsShaped (wiring v)) where
  pub observed-found : (n p : ℕ) → has p (list_of v.pool.fanouts n) ≡ true → has p (list_of v.pool.inputs 0) ≡ true → IsObserved (net_of v) n
  observed-found n p out in' =
      let at = some-at (list_of v.pool.inputs 0) p in' in
      (at.0, ap (λ (l : List ℕ). slice_get l at.0) (observed-net v) ∙ slice_get-map (home v.pool.fanouts) (list_of v.pool.inputs 0) at.0 ∙ ap (option_map (home v.pool.fanouts)) at.1 ∙ ap (λ (m : ℕ). Some m) (home-here v.pool.fanouts _ p n rv.fanouts out))

  pub observed-pin : (n : ℕ) → IsObserved (net_of v) n → (p : ℕ) × ((has p (list_of v.pool.fanouts n) ≡ true) × (has p (list_of v.pool.inputs 0) ≡ true))
  observed-pin n at =
      let there : option_map (home v.pool.fanouts) (slice_get (list_of v.pool.inputs 0) at.0) ≡ Some n = sym (slice_get-map (home v.pool.fanouts) (list_of v.pool.inputs 0) at.0) ∙ ap (λ (l : List ℕ). slice_get l at.0) (sym (observed-net v)) ∙ at.1 in
      let pin = mapped (home v.pool.fanouts) (slice_get (list_of v.pool.inputs 0) at.0) n there in
      let inside = has-there (list_of v.pool.inputs 0) at.0 pin.0 (sym pin.1.0) in
      let by = s.driven 0 pin.0 inside in
      let is : by.0 ≡ n = sym (home-here v.pool.fanouts _ pin.0 by.0 rv.fanouts by.1) ∙ pin.1.1 in
      (pin.0, (ap (λ (m : ℕ). has pin.0 (list_of v.pool.fanouts m)) (sym is) ∙ by.1, inside))

  pub observed-cases : (n : ℕ) (b : Bool) → (b ≡ true → (p : ℕ) × ((has p (list_of v.pool.fanouts n) ≡ true) × (has p (list_of v.pool.inputs 0) ≡ true))) → (b ≡ false → (p : ℕ) → has p (list_of v.pool.fanouts n) ≡ true → has p (list_of v.pool.inputs 0) ≡ false) → IsTrue b ↔ IsObserved (net_of v) n
  observed-cases n true found none = (λ t. (let p = found refl in observed-found n p.0 p.1.0 p.1.1), λ o. refl)
  observed-cases n false found none = (λ t. absurd (false≢true t), λ o. (let p = observed-pin n o in absurd (false≢true (sym (none refl p.0 p.1.0) ∙ p.1.1))))
