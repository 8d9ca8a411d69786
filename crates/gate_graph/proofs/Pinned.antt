-- Pins of gates, in a graph.
use Rattle.std.proofs.Common.{◌≡◌, ℕ, ◌<◌, ◌≤◌, true, List, [], ◌∷◌, length, map, Option, Some, None, refl, sym, ap, ◌∙◌, arith, inl, inr}
use Rattle.std.specs.Prelude.{slice_get}
use Rattle.std.specs.Option.{option_map}
use Rattle.std.proofs.lemmas.Bool.{cases_eq, ne_eqb}
use Rattle.std.proofs.lemmas.Bool.Decides.{nat_tests}
use Rattle.std.proofs.lemmas.List.{get_or_past, length-map}
use Rattle.std.proofs.lemmas.Option.{slice_get-map, slice_get-get_or}
use Rattle.gate_net.specs.declared.Kind.{Kind}
use Rattle.gate_net.specs.Net.{drivers_of, drivers_in}
use Rattle.pin_pool.specs.Ring.{has}
use Rattle.pin_pool.specs.Rings.{IsLinked}
use Rattle.pin_pool.specs.Pins.{list_of}
use Rattle.pin_pool.specs.Rings.{rings_of}
use Rattle.gate_graph.specs.Wirings.{IsShaped, kind_at}
use Rattle.gate_graph.specs.Circuit.{Circuit, wiring, net_of, node_with, gate_pins, home}
use Rattle.gate_graph.proofs.NetOf.{node_at-net}
use Rattle.pin_pool.proofs.Public.{has-there}

pub no-pins : (xs : List ℕ) → ((p : ℕ) → has p xs ≡ true → ⊥) → xs ≡ []
no-pins [] h = refl
no-pins (x ∷ xs) h = absurd (h x (grind (arith, nat_tests)))

pub map-none : {A : Type 0} (f : A → ℕ) (o : Option A) → ((x : A) → o ≡ Some x → ⊥) → option_map f o ≡ None
map-none f None h = refl
map-none f (Some x) h = absurd (h x refl)

module _ (v : Circuit) (w : IsShaped (wiring v)) where
  pub dead-pins : (g : ℕ) → kind_at v.kinds g ≡ None → list_of v.pool.inputs g ≡ []
  dead-pins g e = no-pins (list_of v.pool.inputs g) (λ p h. w.gates_live g p h e)

  pub past-pins : (g : ℕ) → length v.kinds ≤ g → gate_pins v.pool g ≡ []
  past-pins g h = elim (cases_eq g 0) [
    | inl e ↦ rw e refl
    | inr ne ↦ rw (ne_eqb g 0 ne) (dead-pins g (get_or_past v.kinds g None h))
  ]

  drivers-by : (g : ℕ) (o : Option Kind) → kind_at v.kinds g ≡ o → drivers_in (node_with o (map (home v.pool.fanouts) (gate_pins v.pool g))) ≡ map (home v.pool.fanouts) (gate_pins v.pool g)
  drivers-by g (Some k) e = refl
  drivers-by g None e = elim (cases_eq g 0) [
    | inl is ↦ rw is refl
    | inr ne ↦ rw (ne_eqb g 0 ne, dead-pins g e) refl
  ]

  pub drivers-all : (g : ℕ) → drivers_of (net_of v) g ≡ map (home v.pool.fanouts) (gate_pins v.pool g)
  drivers-all g = ap drivers_in (node_at-net v g) ∙ drivers-by g (kind_at v.kinds g) refl

  pub driver-at : (g k : ℕ) (o : Option ℕ) → o ≡ slice_get (gate_pins v.pool g) k → option_map (home v.pool.fanouts) o ≡ slice_get (drivers_of (net_of v) g) k
  driver-at g k o e = ap (option_map (home v.pool.fanouts)) e ∙ sym (slice_get-map (home v.pool.fanouts) (gate_pins v.pool g) k) ∙ ap (λ (l : List ℕ). slice_get l k) (sym (drivers-all g))

  -- a pin at a position is one of a gate
  pub pin-in : (g k p : ℕ) → Some p ≡ slice_get (gate_pins v.pool g) k → has p (list_of v.pool.inputs g) ≡ true
  pin-in g k p e = elim (cases_eq g 0) [
    | inl is ↦ let e' : Some p ≡ slice_get [] k = rw is at e in cc
    | inr ne ↦ has-there (list_of v.pool.inputs g) k p (sym (rw (ne_eqb g 0 ne) at e))
  ]

  pub pin-there : (g k : ℕ) → k < length (drivers_of (net_of v) g) → None ≡ slice_get (gate_pins v.pool g) k → ⊥
  pin-there g k h none =
      let count = ap length (drivers-all g) ∙ length-map (gate_pins v.pool g) (home v.pool.fanouts) in
      let some = slice_get-get_or (gate_pins v.pool g) k 0 (omega (arith, count)) in cc (none, some)

  pub linked-by : (g p : ℕ) → has p (list_of v.pool.inputs g) ≡ true → IsLinked (rings_of v.pool) p
  linked-by g p h = (g, h)

  pub linked-gate : (g p : ℕ) → has p (gate_pins v.pool g) ≡ true → IsLinked (rings_of v.pool) p
  linked-gate g p h = elim (cases_eq g 0) [
    | inl is ↦ let none : has p [] ≡ true = rw is at h in cc
    | inr ne ↦ linked-by g p (rw (ne_eqb g 0 ne) at h)
  ]
