-- A pin is taken out, or gets another driver.
use Rattle.std.proofs.Common.{◌≡◌, ◌≢◌, ℕ, zero, suc, Bool, true, List, [], ◌∷◌, length, map, subst, Option, Some, None, refl, sym, ap, ◌∙◌, arith, inl, inr}
use Rattle.std.specs.Prelude.{slice_get}
use Rattle.std.proofs.lemmas.Bool.{cases_eq, ne_eqb, eq-eqb, false_from_ne_true, false≢true}
use Rattle.std.proofs.lemmas.Bool.Decides.{eqb_tells, nat_tests}
use Rattle.gate_net.specs.declared.Kind.{Kind}
use Rattle.gate_net.specs.Meaning.{inversion}
use Rattle.gate_net.specs.Net.{drivers_of}
use Rattle.gate_net.specs.Values.{IsJunction}
use Rattle.gate_net.specs.Edits.{without as without_at, without_pin}
use Rattle.pin_pool.proofs.Public.{back, has-there, has-without, same-rings, stands, without-absent}
use Rattle.pin_pool.specs.Ring.{has, without, IsApart}
use Rattle.pin_pool.specs.Pins.{list_of}
use Rattle.pin_pool.specs.declared.names.PinNo.{PinNo}
use Rattle.pin_pool.specs.declared.names.Slot.{Slot}
use Rattle.gate_graph.specs.declared.undo_list.Undo.{Undo}
use Rattle.gate_graph.specs.declared.undo_list.Undo.TheVariants.{Removed}
use Rattle.pin_pool.specs.Rings.{Rings, AreRings, AreOnce, Stood, rings_of, unlinked, relinked, all_without, IsOut}
use Rattle.gate_graph.specs.Wirings.{Wiring, IsShaped, IsWired, kind_at}
use Rattle.gate_graph.specs.Undoing.{CanRelink, LeadOn}
use Rattle.gate_graph.specs.Circuit.{Circuit, wiring, net_of, gate_pins, home}
use Rattle.gate_graph.proofs.NetOf.{home-here, map-same, net-with, drivers-there}
use Rattle.gate_graph.proofs.LeadOns.{lead-rings, kind-of, no-parity, not-constant, one-parity}

module _ (f : ℕ → List ℕ) (taken : ℕ → Bool) (once : AreOnce f taken) (p : ℕ) where
  pub out : IsOut (all_without p f) p
  out n = has-without p (f n) p (once.apart n) ∙ grind (arith, nat_tests)

  pub had : (n q : ℕ) → has q (all_without p f n) ≡ true → (has q (f n) ≡ true) × (q ≢ p)
  had n q h = let read = has-without p (f n) q (once.apart n) in elim (eqb_tells q p) [
    | inl t ↦ absurd (grind (arith, nat_tests))
    | inr t ↦ (grind (arith, nat_tests), t.1)
  ]

  pub keeps : (n q : ℕ) → has q (f n) ≡ true → q ≢ p → has q (all_without p f n) ≡ true
  keeps n q h ne = has-without p (f n) q (once.apart n) ∙ rw (ne_eqb q p ne) h

  pub elsewhere : (g n : ℕ) → has p (f g) ≡ true → n ≢ g → all_without p f n ≡ f n
  elsewhere g n h ne = without-absent p (f n) (false_from_ne_true _ (λ k. ne (once.one n g p k h)))

without-map : (f : ℕ → ℕ) (xs : List ℕ) (k p : ℕ) → IsApart xs → slice_get xs k ≡ Some p → map f (without p xs) ≡ without_at (map f xs) k
without-map f [] k p a e = cc
without-map f (x ∷ xs) zero p a e = let is : x ≡ p = cc in rw (is, eq-eqb p p refl) refl
without-map f (x ∷ xs) (suc k) p a e = elim (cases_eq p x) [
  | inl is ↦ let wrong : has x xs ≡ true = rw (sym is) (has-there xs k p e) in absurd (false≢true (sym a.0 ∙ wrong))
  | inr ne ↦ rw (ne_eqb p x ne) (ap (λ (l : List ℕ). f x ∷ l) (without-map f xs k p a.1 e))
]

-- the drivers of the pins that are left
module _ (v w : Circuit) (p : ℕ) (e : rings_of w.pool ≡ unlinked p (rings_of v.pool)) (rv : AreRings (rings_of v.pool)) (rw' : AreRings (rings_of w.pool)) (ww : IsWired (wiring v)) (g k : ℕ) (at : slice_get (list_of v.pool.inputs g) k ≡ Some p) where
  abbrev ins : ℕ → List ℕ
  ins n = list_of v.pool.inputs n

  abbrev outs : ℕ → List ℕ
  outs n = list_of v.pool.fanouts n

  pub in-gate : has p (ins g) ≡ true
  in-gate = has-there (ins g) k p at

  input-now : (n : ℕ) → list_of w.pool.inputs n ≡ all_without p ins n
  input-now n = ap (λ (r : Rings). r.inputs n) e

  fanout-now : (n : ℕ) → list_of w.pool.fanouts n ≡ all_without p outs n
  fanout-now n = ap (λ (r : Rings). r.fanouts n) e

  home-old : (n q : ℕ) → has q (all_without p ins n) ≡ true → home w.pool.fanouts q ≡ home v.pool.fanouts q
  home-old n q h =
      let was = had ins _ rv.inputs p n q h in
      let by = ww.shape.driven n q was.0 in
      home-here w.pool.fanouts _ q by.0 rw'.fanouts (ap (has q) (fanout-now by.0) ∙ keeps outs _ rv.fanouts p by.0 q by.1 was.1) ∙ sym (home-here v.pool.fanouts _ q by.0 rv.fanouts by.1)

  pub homes-elsewhere : (n : ℕ) → n ≢ g → map (home w.pool.fanouts) (list_of w.pool.inputs n) ≡ map (home v.pool.fanouts) (ins n)
  homes-elsewhere n other =
      ap (map (home w.pool.fanouts)) (input-now n) ∙ map-same (home w.pool.fanouts) (home v.pool.fanouts) (all_without p ins n) (home-old n) ∙ ap (map (home v.pool.fanouts)) (elsewhere ins _ rv.inputs p g n in-gate other)

  pub homes-without : (kind : Kind) → g ≢ 0 → kind_at v.kinds g ≡ Some kind → map (home w.pool.fanouts) (list_of w.pool.inputs g) ≡ without_at (drivers_of (net_of v) g) k
  homes-without kind ne live =
      ap (map (home w.pool.fanouts)) (input-now g) ∙ map-same (home w.pool.fanouts) (home v.pool.fanouts) (all_without p ins g) (home-old g)
      ∙ without-map (home v.pool.fanouts) (ins g) k p (rv.inputs.apart g) at
      ∙ ap (λ (l : List ℕ). without_at l k) (sym (drivers-there v g kind ne live))

-- the rings with the pin put back
module _ (v : Circuit) (rv : AreRings (rings_of v.pool)) (pin : PinNo) (slot : Slot) (s : Stood (rings_of v.pool) pin.0 slot) where
  abbrev old_ins : ℕ → List ℕ
  old_ins n = list_of v.pool.inputs n

  abbrev old_outs : ℕ → List ℕ
  old_outs n = list_of v.pool.fanouts n

  pub again : relinked pin.0 slot (unlinked pin.0 (rings_of v.pool)) ≡ rings_of v.pool
  again =
      same-rings _ _ (back old_ins _ rv.inputs pin.0 slot.gate slot.in_gate s.in_gate s.after_gate) (back old_outs _ rv.fanouts pin.0 slot.driver slot.in_driver s.in_driver s.after_driver) refl

  pub can-relink : (kind : ℕ → Option Kind) → kind slot.gate ≢ None → kind slot.driver ≢ None → CanRelink (record { kind = kind; rings = unlinked pin.0 (rings_of v.pool) }) pin slot
  can-relink kind gate driver =
      (rv.inputs.members slot.gate pin.0 s.in_gate, (out old_ins _ rv.inputs pin.0, (out old_outs _ rv.fanouts pin.0, (gate, (driver, (stands old_ins _ rv.inputs pin.0 slot.gate slot.in_gate s.in_gate s.after_gate, stands old_outs _ rv.fanouts pin.0 slot.driver slot.in_driver s.in_driver s.after_driver))))))

module _ (v w : Circuit) (p : ℕ) (same : w.kinds ≡ v.kinds) (e : rings_of w.pool ≡ unlinked p (rings_of v.pool)) (rv : AreRings (rings_of v.pool)) where
  pub back-removed : (pin : PinNo) (slot : Slot) → pin.0 ≡ p → Stood (rings_of v.pool) pin.0 slot → kind_at v.kinds slot.gate ≢ None → kind_at v.kinds slot.driver ≢ None → (es : List Undo) → LeadOn v w es (Removed pin slot ∷ es)
  back-removed pin slot is s gate driver es =
      lead-rings v w (Removed pin slot) es (unlinked pin.0 (rings_of v.pool)) same (e ∙ ap (λ (q : ℕ). unlinked q (rings_of v.pool)) (sym is))
      (can-relink v rv pin slot s (λ n. kind_at v.kinds n) gate driver, ap (λ (r : Rings). let y : Wiring = record { kind = λ (n : ℕ). kind_at v.kinds n; rings = r } in y) (again v rv pin slot s)) tt

  module _ (rw' : AreRings (rings_of w.pool)) (ww : IsWired (wiring v)) (g k : ℕ) (kind : Kind) (ne : g ≢ 0) (live : kind_at v.kinds g ≡ Some kind) (at : slice_get (list_of v.pool.inputs g) k ≡ Some p) where
    abbrev was_in : ℕ → List ℕ
    was_in n = list_of v.pool.inputs n

    abbrev was_out : ℕ → List ℕ
    was_out n = list_of v.pool.fanouts n

    pub net-removed : net_of w ≡ without_pin (net_of v) g k
    net-removed =
        net-with v w g kind (without_at (drivers_of (net_of v) g) k) ne live (λ n. ap (λ (ks : List (Option Kind)). kind_at ks n) same)
        (homes-elsewhere v w p e rv rw' ww g k at) (homes-without v w p e rv rw' ww g k at kind ne live)

    shaped-now : inversion kind ≡ None → IsShaped (record { kind = λ n. kind_at v.kinds n; rings = unlinked p (rings_of v.pool) })
    shaped-now junction =
        let s = ww.shape in record {
          zero_is = s.zero_is;
          one_is = s.one_is;
          one_reads = ap (without p) s.one_reads;
          gates_live = λ n q h. s.gates_live n q (had was_in _ rv.inputs p n q h).0;
          drivers_live = λ n q h. s.drivers_live n q (had was_out _ rv.fanouts p n q h).0;
          driven = λ n q h. (let was = had was_in _ rv.inputs p n q h in let by = s.driven n q was.0 in (by.0, keeps was_out _ rv.fanouts p by.0 q by.1 was.1));
          read = λ n q h. (let was = had was_out _ rv.fanouts p n q h in let by = s.read n q was.0 in (by.0, keeps was_in _ rv.inputs p by.0 q by.1 was.1));
          parities = λ y j i is some. (
              let other : y ≢ g = λ here. one-parity (kind_at v.kinds g) kind j i live junction (ap (λ (n : ℕ). kind_at v.kinds n) (sym here) ∙ is) some in
              ap length (elsewhere was_in _ rv.inputs p g y (has-there (was_in g) k p at) other) ∙ s.parities y j i is some);
          sources = s.sources;
          first = s.first;
          sources_read = λ n h. ap (without p) (s.sources_read n h);
        }

    pub wired-removed : inversion kind ≡ None → IsWired (wiring w)
    wired-removed junction =
        let x : Wiring = record { kind = λ n. kind_at v.kinds n; rings = unlinked p (rings_of v.pool) } in
        let now : wiring w ≡ x = rw (same, e) refl in
        let wired : IsWired x = record {
          shape = shaped-now junction;
          rank = ww.rank;
          ranked = λ n m q ne' h d. ww.ranked n m q ne' (had was_in _ rv.inputs p n q h).0 (had was_out _ rv.fanouts p m q d).0;
        } in
        subst (λ (y : Wiring). IsWired y) (sym now) wired

-- what removing a pin comes to
pub record Removes (v w : Circuit) (g k : ℕ) (pin : PinNo) (slot : Slot) : Type 0 where
  pub wired : IsWired (wiring w)
  pub net : net_of w ≡ without_pin (net_of v) g k
  pub undos : (es : List Undo) → LeadOn v w es (Removed pin slot ∷ es)

pub removes : (v w : Circuit) (g k : ℕ) (pin : PinNo) (slot : Slot) → w.kinds ≡ v.kinds → rings_of w.pool ≡ unlinked pin.0 (rings_of v.pool) → AreRings (rings_of v.pool) → AreRings (rings_of w.pool) → IsWired (wiring v) → ((c : Bool) × IsJunction (net_of v) g c) → Some pin.0 ≡ slice_get (gate_pins v.pool g) k → Stood (rings_of v.pool) pin.0 slot → Removes v w g k pin slot
removes v w g k pin slot same e rv rw' ww junction at stood =
    let kind = junction.1.0 in
    let live : kind_at v.kinds g ≡ Some kind = kind-of v g _ junction.1.1.0.1 in
    let ne = (not-constant v ww.shape g kind junction.0 live junction.1.1.1).0 in
    let at' : slice_get (list_of v.pool.inputs g) k ≡ Some pin.0 = sym (rw (ne_eqb g 0 ne) at at) in
    let not = no-parity kind junction.0 junction.1.1.1 in
    record {
      wired = wired-removed v w pin.0 same e rv rw' ww g k kind ne live at' not;
      net = net-removed v w pin.0 same e rv rw' ww g k kind ne live at';
      undos = back-removed v w pin.0 same e rv pin slot refl stood (ww.shape.gates_live slot.gate pin.0 stood.in_gate) (ww.shape.drivers_live slot.driver pin.0 stood.in_driver);
    }
