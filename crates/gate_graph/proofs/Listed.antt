-- The lists of readers are those of the net.
use Rattle.std.proofs.Common.{◌≡◌, ◌≢◌, ℕ, true, false, List, [], ◌∷◌, map, Option, Some, None, refl, sym, ap, ◌∙◌, inl, inr}
use Rattle.std.specs.Prelude.{slice_get}
use Rattle.std.specs.Option.{option_map}
use Rattle.std.proofs.lemmas.Bool.{cases_eq, ne_eqb, eq-eqb, or_left, or_right, cases_Bool, false≢true, false_from_ne_true}
use Rattle.std.proofs.lemmas.Option.{slice_get-map}
use Rattle.gate_net.specs.Net.{Reads}
use Rattle.pin_pool.specs.Ring.{has, IsApart}
use Rattle.pin_pool.specs.Pins.{list_of}
use Rattle.pin_pool.specs.Rings.{AreRings, rings_of}
use Rattle.gate_graph.specs.Wirings.{IsShaped}
use Rattle.gate_graph.specs.Circuit.{Circuit, wiring, net_of, fanouts_of, gate_pins, home, reader, place_in, without_observed}
use Rattle.gate_graph.specs.Readers.{ListReaders}
use Rattle.gate_graph.proofs.NetOf.{home-here}
use Rattle.gate_graph.proofs.Pinned.{drivers-all, pin-in}
use Rattle.gate_graph.proofs.Ranked.{some-at, read-by, not-zero}
use Rattle.gate_graph.proofs.Placed.{fanouts-are}
use Rattle.gate_graph.proofs.PlaceLists.{at-place, place-at}
use Rattle.pin_pool.proofs.Public.{has-there}

pub kept-has : (seen ps : List ℕ) (p : ℕ) → has p ps ≡ true → has p seen ≡ false → has p (without_observed seen ps) ≡ true
kept-has seen [] p h out = cc
kept-has seen (x ∷ ps) p h out = elim (cases_Bool (has x seen)) [
  | inl in' ↦ elim (cases_eq p x) [
    | inl is ↦ absurd (false≢true (sym out ∙ ap (λ (q : ℕ). has q seen) is ∙ in'))
    | inr ne ↦ let later : has p ps ≡ true = rw (ne_eqb p x ne) at h in rw in' (kept-has seen ps p later out)
  ]
  | inr out' ↦ elim (cases_eq p x) [
    | inl is ↦ rw out' (or_left _ _ (eq-eqb p x is))
    | inr ne ↦ let later : has p ps ≡ true = rw (ne_eqb p x ne) at h in rw out' (or_right _ _ (kept-has seen ps p later out))
  ]
]

pub kept-had : (seen ps : List ℕ) (p : ℕ) → has p (without_observed seen ps) ≡ true → (has p ps ≡ true) × (has p seen ≡ false)
kept-had seen [] p h = cc
kept-had seen (x ∷ ps) p h = elim (cases_Bool (has x seen)) [
  | inl in' ↦ let later : has p (without_observed seen ps) ≡ true = rw in' at h in let old = kept-had seen ps p later in (or_right _ _ old.0, old.1)
  | inr out ↦ elim (cases_eq p x) [
    | inl is ↦ (or_left _ _ (eq-eqb p x is), ap (λ (q : ℕ). has q seen) is ∙ out)
    | inr ne ↦
        let now : has p (x ∷ without_observed seen ps) ≡ true = rw out at h in
        let later : has p (without_observed seen ps) ≡ true = rw (ne_eqb p x ne) at now in
        let old = kept-had seen ps p later in (or_right _ _ old.0, old.1)
  ]
]

pub kept-apart : (seen ps : List ℕ) → IsApart ps → IsApart (without_observed seen ps)
kept-apart seen [] a = tt
kept-apart seen (x ∷ ps) a = elim (cases_Bool (has x seen)) [
  | inl in' ↦ rw in' (kept-apart seen ps a.1)
  | inr out ↦ rw out (false_from_ne_true _ (λ h. false≢true (sym a.0 ∙ (kept-had seen ps x h).0)), kept-apart seen ps a.1)
]

pub mapped-pair : (f : ℕ → ℕ × ℕ) (o : Option ℕ) (x : ℕ × ℕ) → option_map f o ≡ Some x → (p : ℕ) × ((o ≡ Some p) × (f p ≡ x))
mapped-pair f None x e = cc
mapped-pair f (Some p) x e = let is : f p ≡ x = cc in (p, (refl, is))

module _ (v : Circuit) (r : AreRings (rings_of v.pool)) (s : IsShaped (wiring v)) where
  -- a pin that is no observed place has a gate, which reads the driver at the pin's place
  pub reads-at : (g n p k : ℕ) → g ≢ 0 → slice_get (list_of v.pool.inputs g) k ≡ Some p → has p (list_of v.pool.fanouts n) ≡ true → Reads (net_of v) g k n
  reads-at g n p k ne at d =
      let pins : gate_pins v.pool g ≡ list_of v.pool.inputs g = rw (ne_eqb g 0 ne) refl in
      ap (λ (l : List ℕ). slice_get l k) (drivers-all v s g ∙ ap (map (home v.pool.fanouts)) pins) ∙ slice_get-map (home v.pool.fanouts) (list_of v.pool.inputs g) k ∙ ap (option_map (home v.pool.fanouts)) at ∙ ap (λ (m : ℕ). Some m) (home-here v.pool.fanouts _ p n r.fanouts d)

  abbrev seen : List ℕ
  seen = list_of v.pool.inputs 0

  abbrev kept : ℕ → List ℕ
  kept n = without_observed seen (list_of v.pool.fanouts n)

  abbrev spot : ℕ → ℕ → ℕ × ℕ
  spot g p = (g, place_in (list_of v.pool.inputs g) p)

  pin-behind : (n k : ℕ) (place : ℕ × ℕ) → slice_get (fanouts_of v n) k ≡ Some place → (p : ℕ) × ((slice_get (kept n) k ≡ Some p) × (reader v.pool p ≡ place))
  pin-behind n k place e = mapped-pair (reader v.pool) (slice_get (kept n) k) place (sym (slice_get-map (reader v.pool) (kept n) k) ∙ ap (λ (l : List (ℕ × ℕ)). slice_get l k) (fanouts-are v n) ∙ e)

  -- the gate of such a pin, and its place there
  gate-behind : (n p : ℕ) → has p (kept n) ≡ true → (g : ℕ) × ((g ≢ 0) × ((reader v.pool p ≡ spot g p) × (slice_get (list_of v.pool.inputs g) (place_in (list_of v.pool.inputs g) p) ≡ Some p)))
  gate-behind n p h =
      let had = kept-had seen (list_of v.pool.fanouts n) p h in
      let by = s.read n p had.0 in
      let ne : by.0 ≢ 0 = λ is. false≢true (sym had.1 ∙ ap (λ (g : ℕ). has p (list_of v.pool.inputs g)) (sym is) ∙ by.1) in
      let is : home v.pool.inputs p ≡ by.0 = home-here v.pool.inputs _ p by.0 r.inputs by.1 in
      (by.0, (ne, (rw is refl, at-place (list_of v.pool.inputs by.0) p by.1)))

  reads-all : (n k : ℕ) (place : ℕ × ℕ) → slice_get (fanouts_of v n) k ≡ Some place → Reads (net_of v) place.0 place.1 n
  reads-all n k place e =
      let p = pin-behind n k place e in
      let inside = has-there (kept n) k p.0 p.1.0 in
      let g = gate-behind n p.0 inside in
      let is : spot g.0 p.0 ≡ place = sym g.1.1.0 ∙ p.1.1 in
      rw (← is) (reads-at g.0 n p.0 (place_in (list_of v.pool.inputs g.0) p.0) g.1.0 g.1.1.1 (kept-had seen (list_of v.pool.fanouts n) p.0 inside).0)

  all-listed : (n : ℕ) (place : ℕ × ℕ) → Reads (net_of v) place.0 place.1 n → (k : ℕ) × (slice_get (fanouts_of v n) k ≡ Some place)
  all-listed n place reads =
      let by = read-by v r s place.0 place.1 n reads in
      let ne = not-zero v place.0 place.1 by.0 by.1.0 in
      let inside = pin-in v s place.0 place.1 by.0 by.1.0 in
      let out : has by.0 seen ≡ false = false_from_ne_true _ (λ h. ne (r.inputs.one place.0 0 by.0 inside h)) in
      let at = some-at (kept n) by.0 (kept-has seen (list_of v.pool.fanouts n) by.0 by.1.1 out) in
      let there : slice_get (list_of v.pool.inputs place.0) place.1 ≡ Some by.0 = sym (rw (ne_eqb place.0 0 ne) at by.1.0) in
      let is : home v.pool.inputs by.0 ≡ place.0 = home-here v.pool.inputs _ by.0 place.0 r.inputs inside in
      let here : place_in (list_of v.pool.inputs place.0) by.0 ≡ place.1 = place-at (list_of v.pool.inputs place.0) place.1 by.0 (r.inputs.apart place.0) there in
      let now : reader v.pool by.0 ≡ place = rw is (rw here refl) in
      (at.0, ap (λ (l : List (ℕ × ℕ)). slice_get l at.0) (sym (fanouts-are v n)) ∙ slice_get-map (reader v.pool) (kept n) at.0 ∙ ap (option_map (reader v.pool)) at.1 ∙ ap (λ (x : ℕ × ℕ). Some x) now)

  same-pin : (g h p q : ℕ) → spot g p ≡ spot h q → slice_get (list_of v.pool.inputs g) (place_in (list_of v.pool.inputs g) p) ≡ Some p → slice_get (list_of v.pool.inputs h) (place_in (list_of v.pool.inputs h) q) ≡ Some q → p ≡ q
  same-pin g h p q e a b =
      let gates : g ≡ h = ap (λ (x : ℕ × ℕ). x.0) e in
      let places : place_in (list_of v.pool.inputs g) p ≡ place_in (list_of v.pool.inputs h) q = ap (λ (x : ℕ × ℕ). x.1) e in
      let both : Some p ≡ Some q = sym a ∙ ap (λ (m : ℕ). slice_get (list_of v.pool.inputs m) (place_in (list_of v.pool.inputs g) p)) gates ∙ ap (slice_get (list_of v.pool.inputs h)) places ∙ b in cc

  once-listed : (n k l : ℕ) (place : ℕ × ℕ) → slice_get (fanouts_of v n) k ≡ Some place → slice_get (fanouts_of v n) l ≡ Some place → k ≡ l
  once-listed n k l place e f =
      let p = pin-behind n k place e in
      let q = pin-behind n l place f in
      let g = gate-behind n p.0 (has-there (kept n) k p.0 p.1.0) in
      let h = gate-behind n q.0 (has-there (kept n) l q.0 q.1.0) in
      let same : p.0 ≡ q.0 = same-pin g.0 h.0 p.0 q.0 (sym g.1.1.0 ∙ p.1.1 ∙ sym q.1.1 ∙ h.1.1.0) g.1.1.1 h.1.1.1 in
      let apart = kept-apart seen (list_of v.pool.fanouts n) (r.fanouts.apart n) in
      sym (place-at (kept n) k p.0 apart p.1.0) ∙ ap (place_in (kept n)) same ∙ place-at (kept n) l q.0 apart q.1.0

  pub readers-listed : ListReaders v
  readers-listed = record { reads = reads-all; all = all-listed; once = once-listed }
