-- A pin gets another driver.
use Rattle.std.proofs.Common.{◌≡◌, ◌≢◌, ℕ, zero, suc, true, List, [], ◌∷◌, ◌++◌, length, map, set, subst, Option, Some, None, refl, sym, ap, ◌∙◌, arith, inl, inr, ◌⊎◌}
use Rattle.std.specs.Prelude.{slice_get, slice_set}
use Rattle.std.proofs.lemmas.Bool.{cases_eq, ne_eqb}
use Rattle.std.proofs.lemmas.Bool.Decides.{eqb_tells, nat_tests}
use Rattle.gate_net.specs.declared.Kind.{Kind}
use Rattle.gate_net.specs.Net.{Net, drivers_of, Reads, IsAcyclic, IsLive}
use Rattle.gate_net.specs.Edits.{with_drivers, with_pin}
use Rattle.gate_net.specs.Paths.{Reaches}
use Rattle.pin_pool.proofs.Public.{back, has-there, same-rings, stands}
use Rattle.pin_pool.specs.Ring.{has, IsApart}
use Rattle.pin_pool.specs.Pins.{list_of, StandsIn, put_after}
use Rattle.pin_pool.specs.declared.names.PinNo.{PinNo}
use Rattle.pin_pool.specs.declared.names.Slot.{Slot}
use Rattle.gate_graph.specs.declared.undo_list.Undo.{Undo}
use Rattle.gate_graph.specs.declared.undo_list.Undo.TheVariants.{Redriven}
use Rattle.pin_pool.specs.Rings.{Rings, AreRings, Stood, rings_of, redriven, restored, changed, all_without}
use Rattle.gate_graph.specs.Wirings.{Wiring, IsShaped, IsWired, kind_at}
use Rattle.gate_graph.specs.Undoing.{CanTakeBack, LeadOn}
use Rattle.gate_graph.specs.Circuit.{Circuit, wiring, net_of, gate_pins, home}
use Rattle.gate_graph.proofs.NetOf.{home-here, map-same, net-with, drivers-there, node-there}
use Rattle.gate_graph.proofs.LeadOns.{lead-rings, live-in}
use Rattle.gate_graph.proofs.Ranked.{acyclic-net, wired-by, not-zero}
use Rattle.gate_graph.proofs.Appended.{pushed, pushed-has, pushed-keeps, pushed-had, without-pushed}
use Rattle.gate_graph.proofs.Removed.{out, had, keeps}
use Rattle.gate_net.proofs.Public.{node_at-other, node_at-there, pins_keep_acyclic}
use Rattle.rm_base.proofs.Public.{front_stands, last_stands}

some-kind : (o : Option Kind) → o ≢ None → (k : Kind) × (o ≡ Some k)
some-kind None h = absurd (h refl)
some-kind (Some k) h = (k, refl)

at-set : (ds : List ℕ) (k d j x : ℕ) → slice_get (set ds k d) j ≡ Some x → (x ≡ d) ⊎ (slice_get ds j ≡ Some x)
at-set [] k d j x e = cc
at-set (y ∷ ds) zero d zero x e = inl (sym (let is : d ≡ x = cc in is))
at-set (y ∷ ds) zero d (suc j) x e = inr e
at-set (y ∷ ds) (suc k) d zero x e = inr e
at-set (y ∷ ds) (suc k) d (suc j) x e = at-set ds k d j x e

-- a pin may read another node where a pin to it may be added
redrives-acyclic : (net : Net) (g k d : ℕ) → IsAcyclic net → IsLive net g → d ≢ g → (Reaches net g d → ⊥) → IsAcyclic (with_drivers net g (slice_set (drivers_of net g) k d))
redrives-acyclic net g k d acyclic live ne apart =
    let more = pins_keep_acyclic net g d acyclic live ne apart in
    (more.0, λ y j x reads. (let found = within y j x reads in more.1 y found.0 x found.1))
  where
    within : (y j x : ℕ) → Reads (with_drivers net g (slice_set (drivers_of net g) k d)) y j x → (q : ℕ) × Reads (with_pin net g d) y q x
    within y j x reads = elim (eqb_tells y g) [
      | inr t ↦
          let old : Reads net y j x = rw (node_at-other net g (slice_set (drivers_of net g) k d) y t.1) at reads in
          (j, rw (node_at-other net g (drivers_of net g ++ d ∷ []) y t.1) old)
      | inl t ↦
          let there : Reads (with_drivers net g (slice_set (drivers_of net g) k d)) g j x = rw t.1 at reads in
          let now : slice_get (slice_set (drivers_of net g) k d) j ≡ Some x = rw (node_at-there net g (slice_set (drivers_of net g) k d) _ live.1.1) at there in
          elim (at-set (drivers_of net g) k d j x now) [
            | inl is ↦ (length (drivers_of net g), rw (t.1, node_at-there net g (drivers_of net g ++ d ∷ []) _ live.1.1, is) (last_stands (drivers_of net g) d))
            | inr old ↦ (j, rw (t.1, node_at-there net g (drivers_of net g ++ d ∷ []) _ live.1.1) (front_stands (drivers_of net g) (d ∷ []) j x old))
          ]
    ]

set-map : (f h : ℕ → ℕ) (xs : List ℕ) (k p d : ℕ) → IsApart xs → slice_get xs k ≡ Some p → h p ≡ d → ((q : ℕ) → has q xs ≡ true → q ≢ p → h q ≡ f q) → map h xs ≡ set (map f xs) k d
set-map f h [] k p d a e there others = cc
set-map f h (x ∷ xs) zero p d a e there others =
    let is : x ≡ p = cc in
    let rest : map h xs ≡ map f xs = map-same h f xs (λ q m. others q (grind (arith, nat_tests)) (λ same. (let wrong : has x xs ≡ true = rw (is, sym same) m in absurd (grind (arith, nat_tests, a.0))))) in
    rw (is, there, rest) refl
set-map f h (x ∷ xs) (suc k) p d a e there others =
    let ne : x ≢ p = λ is. (let wrong : has x xs ≡ true = rw is (has-there xs k p e) in absurd (grind (arith, nat_tests, a.0))) in
    let here : h x ≡ f x = others x (grind (arith, nat_tests)) ne in
    rw (here, set-map f h xs k p d a.1 e there (λ q m. others q (grind (arith, nat_tests)))) refl

module _ (v w : Circuit) (p d : ℕ) (same : w.kinds ≡ v.kinds) (e : rings_of w.pool ≡ redriven p d (rings_of v.pool)) (rv : AreRings (rings_of v.pool)) where
  abbrev ins : ℕ → List ℕ
  ins n = list_of v.pool.inputs n

  abbrev outs : ℕ → List ℕ
  outs n = list_of v.pool.fanouts n

  abbrev rest : ℕ → List ℕ
  rest n = all_without p outs n

  rest-back : all_without p (pushed rest d p) ≡ rest
  rest-back = without-pushed rest d p (out outs _ rv.fanouts p)

  pub back-redriven : (pin : PinNo) (slot : Slot) → pin.0 ≡ p → Stood (rings_of v.pool) p slot → kind_at v.kinds slot.driver ≢ None → (es : List Undo) → LeadOn v w es (Redriven pin slot ∷ es)
  back-redriven pin slot is s driver es =
      let again : restored p slot (redriven p d (rings_of v.pool)) ≡ rings_of v.pool =
      same-rings _ _ refl
      (ap (λ (f : ℕ → List ℕ). changed f slot.driver (put_after (f slot.driver) slot.in_driver p)) rest-back ∙ back outs _ rv.fanouts p slot.driver slot.in_driver s.in_driver s.after_driver)
      refl in
      let x : Wiring = record { kind = λ n. kind_at v.kinds n; rings = redriven p d (rings_of v.pool) } in
      let stood : StandsIn (all_without p (pushed rest d p) slot.driver) slot.in_driver =
      subst (λ (f : ℕ → List ℕ). StandsIn (f slot.driver) slot.in_driver) (sym rest-back) (stands outs _ rv.fanouts p slot.driver slot.in_driver s.in_driver s.after_driver) in
      let can : CanTakeBack x (Redriven pin slot) =
      rw is ((slot.gate, s.in_gate), ((d, pushed-has rest d p), (driver, stood))) in
      lead-rings v w (Redriven pin slot) es (redriven p d (rings_of v.pool)) same e
      (can, ap (λ (q : ℕ). let y : Wiring = record { kind = λ (n : ℕ). kind_at v.kinds n; rings = restored q slot (redriven p d (rings_of v.pool)) } in y) is ∙ ap (λ (r : Rings). let y : Wiring = record { kind = λ (n : ℕ). kind_at v.kinds n; rings = r } in y) again) tt

  input-now : (n : ℕ) → list_of w.pool.inputs n ≡ ins n
  input-now n = ap (λ (r : Rings). r.inputs n) e

  fanout-now : (n : ℕ) → list_of w.pool.fanouts n ≡ pushed rest d p n
  fanout-now n = ap (λ (r : Rings). r.fanouts n) e

  module _ (rw' : AreRings (rings_of w.pool)) (ww : IsWired (wiring v)) (g k : ℕ) (kind : Kind) (ne : g ≢ 0) (live : kind_at v.kinds g ≡ Some kind) (at : slice_get (ins g) k ≡ Some p) where
    in-gate : has p (ins g) ≡ true
    in-gate = has-there (ins g) k p at

    home-old : (n q : ℕ) → has q (ins n) ≡ true → q ≢ p → home w.pool.fanouts q ≡ home v.pool.fanouts q
    home-old n q h ne' =
        let by = ww.shape.driven n q h in
        home-here w.pool.fanouts _ q by.0 rw'.fanouts (ap (has q) (fanout-now by.0) ∙ pushed-keeps rest d p by.0 q (keeps outs _ rv.fanouts p by.0 q by.1 ne')) ∙ sym (home-here v.pool.fanouts _ q by.0 rv.fanouts by.1)

    home-new : home w.pool.fanouts p ≡ d
    home-new = home-here w.pool.fanouts _ p d rw'.fanouts (ap (has p) (fanout-now d) ∙ pushed-has rest d p)

    pub net-redriven : net_of w ≡ with_drivers (net_of v) g (slice_set (drivers_of (net_of v) g) k d)
    net-redriven =
        net-with v w g kind (slice_set (drivers_of (net_of v) g) k d) ne live (λ n. ap (λ (ks : List (Option Kind)). kind_at ks n) same)
        (λ n other. ap (map (home w.pool.fanouts)) (input-now n) ∙ map-same (home w.pool.fanouts) (home v.pool.fanouts) (ins n) (λ q h. home-old n q h (λ is. other (rv.inputs.one n g q h (rw is in-gate)))))
        (ap (map (home w.pool.fanouts)) (input-now g) ∙ set-map (home v.pool.fanouts) (home w.pool.fanouts) (ins g) k p d (rv.inputs.apart g) at home-new (home-old g)
        ∙ ap (λ (l : List ℕ). slice_set l k d) (sym (drivers-there v g kind ne live)))

    shaped-now : kind_at v.kinds d ≢ None → IsShaped (record { kind = λ n. kind_at v.kinds n; rings = redriven p d (rings_of v.pool) })
    shaped-now driver =
        let s = ww.shape in record {
          zero_is = s.zero_is;
          one_is = s.one_is;
          one_reads = s.one_reads;
          gates_live = s.gates_live;
          drivers_live = λ n q h. elim (pushed-had rest d p n q h) [ inl old ↦ s.drivers_live n q (had outs _ rv.fanouts p n q old).0 | inr new ↦ rw new.0 driver ];
          driven = λ n q h. elim (cases_eq q p) [
            | inl is ↦ (d, rw is (pushed-has rest d p))
            | inr ne' ↦ let by = s.driven n q h in (by.0, pushed-keeps rest d p by.0 q (keeps outs _ rv.fanouts p by.0 q by.1 ne'))
          ];
          read = λ n q h. elim (pushed-had rest d p n q h) [ inl old ↦ s.read n q (had outs _ rv.fanouts p n q old).0 | inr new ↦ (g, rw new.1 in-gate) ];
          parities = s.parities;
          sources = s.sources;
          first = s.first;
          sources_read = s.sources_read;
        }

    pub wired-redriven : kind_at v.kinds d ≢ None → d ≢ g → (Reaches (net_of v) g d → ⊥) → IsWired (wiring w)
    wired-redriven driver apart path =
        let x : Wiring = record { kind = λ n. kind_at v.kinds n; rings = redriven p d (rings_of v.pool) } in
        let now : wiring w ≡ x = rw (same, e) refl in
        let shape : IsShaped (wiring w) = subst (λ (y : Wiring). IsShaped y) (sym now) (shaped-now driver) in
        let acyclic : IsAcyclic (net_of w) = rw net-redriven (redrives-acyclic (net_of v) g k d (acyclic-net v rv ww) (kind, (map (home v.pool.fanouts) (ins g), node-there v g kind ne live)) apart path) in
        wired-by w rw' shape acyclic

pub record Redrives (v w : Circuit) (g k d : ℕ) (pin : PinNo) (slot : Slot) : Type 0 where
  pub wired : IsWired (wiring w)
  pub net : net_of w ≡ with_drivers (net_of v) g (slice_set (drivers_of (net_of v) g) k d)
  pub undos : (es : List Undo) → LeadOn v w es (Redriven pin slot ∷ es)

pub redrives : (v w : Circuit) (g k d : ℕ) (pin : PinNo) (slot : Slot) → w.kinds ≡ v.kinds → rings_of w.pool ≡ redriven pin.0 d (rings_of v.pool) → AreRings (rings_of v.pool) → AreRings (rings_of w.pool) → IsWired (wiring v) → IsLive (net_of v) d → d ≢ g → (Reaches (net_of v) g d → ⊥) → Some pin.0 ≡ slice_get (gate_pins v.pool g) k → Stood (rings_of v.pool) pin.0 slot → Redrives v w g k d pin slot
redrives v w g k d pin slot same e rv rw' ww driver apart path at stood =
    let ne = not-zero v g k pin.0 at in
    let at' : slice_get (list_of v.pool.inputs g) k ≡ Some pin.0 = sym (rw (ne_eqb g 0 ne) at at) in
    let kind = some-kind (kind_at v.kinds g) (ww.shape.gates_live g pin.0 (has-there (list_of v.pool.inputs g) k pin.0 at')) in
    record {
      wired = wired-redriven v w pin.0 d same e rv rw' ww g k kind.0 ne kind.1 at' (live-in v d driver) apart path;
      net = net-redriven v w pin.0 d same e rv rw' ww g k kind.0 ne kind.1 at';
      undos = back-redriven v w pin.0 d same e rv pin slot refl stood (ww.shape.drivers_live slot.driver pin.0 stood.in_driver);
    }
