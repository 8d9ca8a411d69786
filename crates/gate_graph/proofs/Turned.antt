-- A pin of an Xor goes, and the gate becomes a Not.
use Rattle.std.proofs.Common.{◌≡◌, ◌≢◌, ℕ, true, false, List, ◌∷◌, length, subst, Option, Some, None, sym, ap, ◌∙◌, arith, inl, inr, refl}
use Rattle.std.specs.Prelude.{slice_get}
use Rattle.std.proofs.lemmas.Bool.{cases_eq, ne_eqb}
use Rattle.gate_net.specs.declared.Kind.{Kind}
use Rattle.gate_net.specs.declared.Kind.TheVariants.{Source, Zero, One, Not, Xor}
use Rattle.gate_net.specs.Meaning.{inversion}
use Rattle.gate_net.specs.Net.{IsKind, drivers_of}
use Rattle.gate_net.specs.Edits.{without as without_at, turned_to_not}
use Rattle.pin_pool.proofs.Public.{changed-back, changed-other, changed-same, length-without}
use Rattle.pin_pool.specs.Ring.{without}
use Rattle.pin_pool.specs.Pins.{list_of}
use Rattle.pin_pool.specs.declared.names.PinNo.{PinNo}
use Rattle.pin_pool.specs.declared.names.Slot.{Slot}
use Rattle.gate_graph.specs.declared.undo_list.Undo.{Undo}
use Rattle.gate_graph.specs.declared.undo_list.Undo.TheVariants.{Turned}
use Rattle.pin_pool.specs.Rings.{AreRings, Stood, rings_of, unlinked, changed}
use Rattle.gate_graph.specs.Wirings.{Wiring, IsShaped, IsWired, kind_at}
use Rattle.gate_graph.specs.Undoing.{LeadOn}
use Rattle.gate_graph.specs.Circuit.{Circuit, wiring, net_of, gate_pins}
use Rattle.gate_graph.proofs.NetOf.{net-node}
use Rattle.gate_graph.proofs.LeadOns.{kind-of, lead-by, within-length}
use Rattle.gate_graph.proofs.Firsts.{first-changed, gate-no_first}
use Rattle.gate_graph.proofs.Removed.{again, can-relink, elsewhere, had, homes-elsewhere, homes-without, in-gate, keeps}

module _ (v w : Circuit) (pin : PinNo) (g k : ℕ) (e : rings_of w.pool ≡ unlinked pin.0 (rings_of v.pool)) (rv : AreRings (rings_of v.pool)) (rw' : AreRings (rings_of w.pool)) (ww : IsWired (wiring v)) (ne : g ≢ 0) (live : kind_at v.kinds g ≡ Some Xor) (at : slice_get (list_of v.pool.inputs g) k ≡ Some pin.0) (now : wiring w ≡ (let x : Wiring = record { kind = changed (λ n. kind_at v.kinds n) g (Some Not); rings = unlinked pin.0 (rings_of v.pool) } in x)) where
  abbrev ins : ℕ → List ℕ
  ins n = list_of v.pool.inputs n

  abbrev outs : ℕ → List ℕ
  outs n = list_of v.pool.fanouts n

  abbrev kinds : ℕ → Option Kind
  kinds n = kind_at v.kinds n

  abbrev after : ℕ → Option Kind
  after n = changed kinds g (Some Not) n

  kind-now : (n : ℕ) → kind_at w.kinds n ≡ after n
  kind-now n = ap (λ (x : Wiring). x.kind n) now

  after-other : (n : ℕ) → n ≢ g → after n ≡ kinds n
  after-other n other = changed-other kinds g (Some Not) n other

  after-there : after g ≡ Some Not
  after-there = changed-same kinds g (Some Not)

  not-one : g ≢ 1
  not-one is = let both : Some Xor ≡ Some One = sym live ∙ ap kinds is ∙ ww.shape.one_is in cc

  still-live : (n : ℕ) → kinds n ≢ None → after n ≢ None
  still-live n some none = elim (cases_eq n g) [
    | inl is ↦ let both : Some Not ≡ None = sym after-there ∙ ap after (sym is) ∙ none in cc
    | inr other ↦ some (sym (after-other n other) ∙ none)
  ]

  pub net-turned : net_of w ≡ turned_to_not (net_of v) g k
  net-turned =
      net-node v w g Xor Not (without_at (drivers_of (net_of v) g) k) ne live (kind-now g ∙ after-there) (λ n other. kind-now n ∙ after-other n other)
      (homes-elsewhere v w pin.0 e rv rw' ww g k at) (homes-without v w pin.0 e rv rw' ww g k at Xor ne live)

  shaped-now : IsShaped (record { kind = after; rings = unlinked pin.0 (rings_of v.pool) })
  shaped-now =
      let s = ww.shape in
      let p = pin.0 in
      let here = in-gate v w p e rv rw' ww g k at in record {
        zero_is = after-other 0 (λ is. ne (sym is)) ∙ s.zero_is;
        one_is = after-other 1 (λ is. not-one (sym is)) ∙ s.one_is;
        one_reads = ap (without p) s.one_reads;
        gates_live = λ n q h. still-live n (s.gates_live n q (had ins _ rv.inputs p n q h).0);
        drivers_live = λ n q h. still-live n (s.drivers_live n q (had outs _ rv.fanouts p n q h).0);
        driven = λ n q h. (let was = had ins _ rv.inputs p n q h in let by = s.driven n q was.0 in (by.0, keeps outs _ rv.fanouts p by.0 q by.1 was.1));
        read = λ n q h. (let was = had outs _ rv.fanouts p n q h in let by = s.read n q was.0 in (by.0, keeps ins _ rv.inputs p by.0 q by.1 was.1));
        parities = λ y j i is some. elim (cases_eq y g) [
          | inl same ↦
              let this : Not ≡ j = (let both : Some Not ≡ Some j = sym after-there ∙ ap after (sym same) ∙ is in cc) in
              let turns : i ≡ true = (let both : Some true ≡ Some i = ap inversion this ∙ some in cc) in
              let two : length (ins g) ≡ 2 = s.parities g Xor false live refl in
              rw (same, turns) (omega (arith, length-without p (ins g) here, two))
          | inr other ↦ ap length (elsewhere ins _ rv.inputs p g y here other) ∙ s.parities y j i (sym (after-other y other) ∙ is) some
        ];
        sources = s.sources;
        first = first-changed kinds g s.sources (Some Not) s.first (rw live (gate-no_first Xor tt)) (gate-no_first Not tt);
        sources_read = λ n h. elim (cases_eq n g) [
          | inl same ↦ let both : Some Not ≡ Some Source = sym after-there ∙ ap after (sym same) ∙ h in cc
          | inr other ↦ ap (without p) (s.sources_read n (sym (after-other n other) ∙ h))
        ];
      }

  pub wired-turned : IsWired (wiring w)
  wired-turned =
      let x : Wiring = record { kind = after; rings = unlinked pin.0 (rings_of v.pool) } in
      let wired : IsWired x = record {
        shape = shaped-now;
        rank = ww.rank;
        ranked = λ n m q ne' h d. ww.ranked n m q ne' (had ins _ rv.inputs pin.0 n q h).0 (had outs _ rv.fanouts pin.0 m q d).0;
      } in
      subst (λ (y : Wiring). IsWired y) (sym now) wired

  pub back-turned : (slot : Slot) → Stood (rings_of v.pool) pin.0 slot → length w.kinds ≡ length v.kinds → (es : List Undo) → LeadOn v w es (Turned pin slot Xor ∷ es)
  back-turned slot s len es =
      let x : Wiring = record { kind = after; rings = unlinked pin.0 (rings_of v.pool) } in
      let same : slot.gate ≡ g = rv.inputs.one slot.gate g pin.0 s.in_gate (in-gate v w pin.0 e rv rw' ww g k at) in
      let kind-back : changed after slot.gate (Some Xor) ≡ kinds = ap (λ (n : ℕ). changed after n (Some Xor)) same ∙ ap (λ (o : Option Kind). changed after g o) (sym live) ∙ changed-back kinds g (Some Not) in
      let rings-back = again v rv pin slot s in
      lead-by v w (Turned pin slot Xor) es x now
      (can-relink v rv pin slot s after (still-live slot.gate (ww.shape.gates_live slot.gate pin.0 s.in_gate)) (still-live slot.driver (ww.shape.drivers_live slot.driver pin.0 s.in_driver)))
      (λ i. record { kind = kind-back i; rings = rings-back i })
      (λ within. (tt, within-length (length v.kinds) (length w.kinds) es len within))

-- what turning an Xor comes to
pub record Turns (v w : Circuit) (g k : ℕ) (pin : PinNo) (slot : Slot) : Type 0 where
  pub wired : IsWired (wiring w)
  pub net : net_of w ≡ turned_to_not (net_of v) g k
  pub undos : (es : List Undo) → LeadOn v w es (Turned pin slot Xor ∷ es)

pub turns : (v w : Circuit) (g k : ℕ) (pin : PinNo) (slot : Slot) → rings_of w.pool ≡ unlinked pin.0 (rings_of v.pool) → AreRings (rings_of v.pool) → AreRings (rings_of w.pool) → IsWired (wiring v) → IsKind (net_of v) g Xor → Some pin.0 ≡ slice_get (gate_pins v.pool g) k → Stood (rings_of v.pool) pin.0 slot → wiring w ≡ (let x : Wiring = record { kind = changed (λ n. kind_at v.kinds n) g (Some Not); rings = unlinked pin.0 (rings_of v.pool) } in x) → length w.kinds ≡ length v.kinds → Turns v w g k pin slot
turns v w g k pin slot e rv rw' ww is at stood now len =
    let live : kind_at v.kinds g ≡ Some Xor = kind-of v g _ is.1 in
    let ne : g ≢ 0 = λ zero. (let both : Some Xor ≡ Some Zero = sym live ∙ ap (λ (n : ℕ). kind_at v.kinds n) zero ∙ ww.shape.zero_is in cc) in
    let at' : slice_get (list_of v.pool.inputs g) k ≡ Some pin.0 = sym (rw (ne_eqb g 0 ne) at at) in
    record {
      wired = wired-turned v w pin g k e rv rw' ww ne live at' now;
      net = net-turned v w pin g k e rv rw' ww ne live at' now;
      undos = back-turned v w pin g k e rv rw' ww ne live at' now slot stood len;
    }
