-- A pin is added.
use Rattle.std.proofs.Common.{◌≡◌, ◌≢◌, ℕ, Bool, true, false, List, [], ◌∷◌, ◌++◌, map, Option, Some, None, refl, sym, ap, ◌∙◌, arith, inl, inr, ◌⊎◌, length}
use mathlib.Core.Path.{fun_ext}
use Rattle.std.proofs.lemmas.Bool.{cases_eq, false_from_ne_true, false≢true}
use Rattle.std.proofs.lemmas.Bool.Decides.{eqb_tells, nat_tests}
use Rattle.std.proofs.lemmas.List.{map-append}
use Rattle.gate_net.specs.declared.Kind.{Kind}
use Rattle.gate_net.specs.Meaning.{inversion}
use Rattle.gate_net.specs.declared.Kind.TheVariants.{Source}
use Rattle.gate_net.specs.Net.{drivers_of, IsAcyclic, IsLive}
use Rattle.gate_net.specs.Edits.{with_pin}
use Rattle.gate_net.specs.Paths.{Reaches}
use Rattle.gate_net.specs.Values.{IsJunction}
use Rattle.pin_pool.proofs.Public.{changed-back, changed-other, changed-same, has-push, same-rings, without-absent, without-push}
use Rattle.pin_pool.specs.Ring.{has}
use Rattle.pin_pool.specs.Pins.{list_of}
use Rattle.pin_pool.specs.Rings.{Rings, AreRings, AreOnce, rings_of, linked, dropped, changed, all_without, IsOut}
use Rattle.gate_graph.specs.Wirings.{IsShaped, IsWired, kind_at}
use Rattle.pin_pool.specs.declared.names.PinNo.{PinNo}
use Rattle.gate_graph.specs.declared.undo_list.Undo.{Undo}
use Rattle.gate_graph.specs.declared.undo_list.Undo.TheVariants.{Appended}
use Rattle.gate_graph.specs.Undoing.{taken_back, LeadOn}
use Rattle.gate_graph.proofs.LeadOns.{lead-on, back-rings, within-same, kind-of, live-in, no-parity, one-parity, not-source, not-constant}
use Rattle.gate_graph.specs.Circuit.{Circuit, wiring, net_of, home}
use Rattle.gate_graph.proofs.NetOf.{home-here, map-same, net-with, drivers-there, node-there}
use Rattle.gate_graph.proofs.Ranked.{acyclic-net, wired-by}
use Rattle.gate_net.proofs.Public.{pins_keep_acyclic}

-- a pin at the end of one list
abbrev pub pushed : (ℕ → List ℕ) → ℕ → ℕ → ℕ → List ℕ
pushed f g p = changed f g (f g ++ p ∷ [])

pub pushed-has : (f : ℕ → List ℕ) (g p : ℕ) → has p (pushed f g p g) ≡ true
pushed-has f g p = rw (changed-same f g (f g ++ p ∷ [])) (has-push (f g) p p ∙ grind (arith, nat_tests))

pub pushed-keeps : (f : ℕ → List ℕ) (g p n q : ℕ) → has q (f n) ≡ true → has q (pushed f g p n) ≡ true
pushed-keeps f g p n q h = elim (cases_eq n g) [
  | inl e ↦ rw (e, changed-same f g (f g ++ p ∷ [])) (has-push (f g) p q ∙ (let h' : has q (f g) ≡ true = rw e at h in grind (arith, nat_tests)))
  | inr ne ↦ rw (changed-other f g (f g ++ p ∷ []) n ne) h
]

pub pushed-had : (f : ℕ → List ℕ) (g p n q : ℕ) → has q (pushed f g p n) ≡ true → (has q (f n) ≡ true) ⊎ ((n ≡ g) × (q ≡ p))
pushed-had f g p n q h = elim (cases_eq n g) [
  | inr ne ↦ inl (rw (changed-other f g (f g ++ p ∷ []) n ne) at h)
  | inl e ↦
      let now : has q (f g ++ p ∷ []) ≡ true = rw (e, changed-same f g (f g ++ p ∷ [])) at h in
      elim (eqb_tells q p) [
        | inl t ↦ inr (e, t.1)
        | inr t ↦ inl (rw e (let read = has-push (f g) p q in grind (arith, nat_tests)))
      ]
]

pub without-pushed : (f : ℕ → List ℕ) (g p : ℕ) → IsOut f p → all_without p (pushed f g p) ≡ f
without-pushed f g p out = fun_ext (λ n. elim (cases_eq n g) [
  | inl e ↦ rw (e, changed-same f g (f g ++ p ∷ [])) (without-push p (f g) (out g))
  | inr ne ↦ rw (changed-other f g (f g ++ p ∷ []) n ne) (without-absent p (f n) (out n))
])

-- a pin that isn't taken is in no list
pub fresh-out : (f : ℕ → List ℕ) (taken : ℕ → Bool) (p : ℕ) → AreOnce f taken → taken p ≡ false → IsOut f p
fresh-out f taken p once free n = false_from_ne_true _ (λ h. false≢true (sym free ∙ once.members n p h))

-- taking the pin out again gives the rings back
pub dropped-linked : (r : Rings) (p g d : ℕ) → AreRings r → r.taken p ≡ false → dropped p (linked p g d r) ≡ r
dropped-linked r p g d once free =
    same-rings _ _ (without-pushed r.inputs g p (fresh-out _ _ p once.inputs free)) (without-pushed r.fanouts d p (fresh-out _ _ p once.fanouts free))
    (ap (λ (b : Bool). changed (changed r.taken p true) p b) (sym free) ∙ changed-back r.taken p true)

pub shaped-linked : (kind : ℕ → Option Kind) (r : Rings) (p g d : ℕ) → IsShaped (record { kind = kind; rings = r }) → kind g ≢ None → ((k : Kind) (i : Bool) → kind g ≡ Some k → inversion k ≡ Some i → ⊥) → kind g ≢ Some Source → g ≢ 1 → kind d ≢ None → IsShaped (record { kind = kind; rings = linked p g d r })
shaped-linked kind r p g d s live junction plain ne1 driver = record {
  zero_is = s.zero_is;
  one_is = s.one_is;
  one_reads = changed-other r.inputs g (r.inputs g ++ p ∷ []) 1 (λ e. ne1 (sym e)) ∙ s.one_reads;
  gates_live = λ n q h. elim (pushed-had r.inputs g p n q h) [ inl old ↦ s.gates_live n q old | inr new ↦ rw new.0 live ];
  drivers_live = λ n q h. elim (pushed-had r.fanouts d p n q h) [ inl old ↦ s.drivers_live n q old | inr new ↦ rw new.0 driver ];
  driven = λ n q h. elim (pushed-had r.inputs g p n q h) [
    | inl old ↦ let by = s.driven n q old in (by.0, pushed-keeps r.fanouts d p by.0 q by.1)
    | inr new ↦ (d, rw new.1 (pushed-has r.fanouts d p))
  ];
  read = λ n q h. elim (pushed-had r.fanouts d p n q h) [
    | inl old ↦ let by = s.read n q old in (by.0, pushed-keeps r.inputs g p by.0 q by.1)
    | inr new ↦ (g, rw new.1 (pushed-has r.inputs g p))
  ];
  parities = λ y k i e some.
      let ne : y ≢ g = λ is. junction k i (ap kind (sym is) ∙ e) some in
      ap length (changed-other r.inputs g (r.inputs g ++ p ∷ []) y ne) ∙ s.parities y k i e some;
  sources = s.sources;
  first = s.first;
  sources_read = λ n e. changed-other r.inputs g (r.inputs g ++ p ∷ []) n (λ is. plain (ap kind (sym is) ∙ e)) ∙ s.sources_read n e;
}

module _ (v w : Circuit) (p g d : ℕ) (kind : Kind) (same : w.kinds ≡ v.kinds) (e : rings_of w.pool ≡ linked p g d (rings_of v.pool)) (rv : AreRings (rings_of v.pool)) (rw' : AreRings (rings_of w.pool)) (ww : IsWired (wiring v)) (ne : g ≢ 0) (live : kind_at v.kinds g ≡ Some kind) where
  abbrev ins : ℕ → List ℕ
  ins n = list_of v.pool.inputs n

  abbrev outs : ℕ → List ℕ
  outs n = list_of v.pool.fanouts n

  input-now : (n : ℕ) → list_of w.pool.inputs n ≡ pushed ins g p n
  input-now n = ap (λ (r : Rings). r.inputs n) e

  fanout-now : (n : ℕ) → list_of w.pool.fanouts n ≡ pushed outs d p n
  fanout-now n = ap (λ (r : Rings). r.fanouts n) e

  -- an old pin has the driver that it had
  home-old : (n q : ℕ) → has q (ins n) ≡ true → home w.pool.fanouts q ≡ home v.pool.fanouts q
  home-old n q h =
      let by = ww.shape.driven n q h in
      home-here w.pool.fanouts _ q by.0 rw'.fanouts (ap (has q) (fanout-now by.0) ∙ pushed-keeps outs d p by.0 q by.1) ∙ sym (home-here v.pool.fanouts _ q by.0 rv.fanouts by.1)

  home-new : home w.pool.fanouts p ≡ d
  home-new = home-here w.pool.fanouts _ p d rw'.fanouts (ap (has p) (fanout-now d) ∙ pushed-has outs d p)

  pub net-appended : net_of w ≡ with_pin (net_of v) g d
  net-appended =
      net-with v w g kind (drivers_of (net_of v) g ++ d ∷ []) ne live (λ n. ap (λ (ks : List (Option Kind)). kind_at ks n) same)
      (λ n other. ap (map (home w.pool.fanouts)) (input-now n ∙ changed-other ins g (ins g ++ p ∷ []) n other) ∙ map-same (home w.pool.fanouts) (home v.pool.fanouts) (ins n) (home-old n))
      (ap (map (home w.pool.fanouts)) (input-now g ∙ changed-same ins g (ins g ++ p ∷ [])) ∙ map-append (home w.pool.fanouts) (ins g) (p ∷ [])
      ∙ ap (λ (l : List ℕ). l ++ home w.pool.fanouts p ∷ []) (map-same (home w.pool.fanouts) (home v.pool.fanouts) (ins g) (home-old g))
      ∙ ap (λ (x : ℕ). map (home v.pool.fanouts) (ins g) ++ x ∷ []) home-new
      ∙ ap (λ (l : List ℕ). l ++ d ∷ []) (sym (drivers-there v g kind ne live)))

  pub wired-appended : inversion kind ≡ None → kind ≢ Source → g ≢ 1 → kind_at v.kinds d ≢ None → d ≢ g → (Reaches (net_of v) g d → ⊥) → IsWired (wiring w)
  wired-appended junction plain ne1 driver apart path =
      let some : kind_at v.kinds g ≢ None = λ none. (let wrong : Some kind ≡ None = sym live ∙ none in cc) in
      let source : kind_at v.kinds g ≢ Some Source = λ is. plain (let both : Some kind ≡ Some Source = sym live ∙ is in cc) in
      let shape : IsShaped (wiring w) = rw (same, e) (shaped-linked (λ n. kind_at v.kinds n) (rings_of v.pool) p g d ww.shape some (λ k i is inverts. one-parity (kind_at v.kinds g) kind k i live junction is inverts) source ne1 driver) in
      let acyclic : IsAcyclic (net_of w) = rw net-appended (pins_keep_acyclic (net_of v) g d (acyclic-net v rv ww) (kind, (map (home v.pool.fanouts) (ins g), node-there v g kind ne live)) apart path) in
      wired-by w rw' shape acyclic

  -- the pin can be taken out again, and this gives back what was
  pub back-appended : (pin : PinNo) → pin.0 ≡ p → (let t : ℕ → Bool = (rings_of v.pool).taken in t p ≡ false) → (es : List Undo) → LeadOn v w es (Appended pin ∷ es)
  back-appended pin is free es =
      let back : taken_back (Appended pin) (wiring w) ≡ wiring v =
      back-rings v w (dropped pin.0) (linked p g d (rings_of v.pool)) same e (ap (λ (q : ℕ). dropped q (linked p g d (rings_of v.pool))) is ∙ dropped-linked (rings_of v.pool) p g d rv free) in
      lead-on v w (Appended pin) es
      (rw is ((g, ap (has p) (input-now g) ∙ pushed-has ins g p), (d, ap (has p) (fanout-now d) ∙ pushed-has outs d p)))
      back (λ within. (tt, within-same w.kinds v.kinds es same within))

-- what appending a pin comes to
pub record Appends (v w : Circuit) (g d : ℕ) (pin : PinNo) : Type 0 where
  pub wired : IsWired (wiring w)
  pub net : net_of w ≡ with_pin (net_of v) g d
  pub undos : (es : List Undo) → LeadOn v w es (Appended pin ∷ es)

pub appends : (v w : Circuit) (g d : ℕ) (pin : PinNo) → w.kinds ≡ v.kinds → rings_of w.pool ≡ linked pin.0 g d (rings_of v.pool) → AreRings (rings_of v.pool) → AreRings (rings_of w.pool) → IsWired (wiring v) → ((c : Bool) × IsJunction (net_of v) g c) → IsLive (net_of v) d → d ≢ g → (Reaches (net_of v) g d → ⊥) → (let t : ℕ → Bool = (rings_of v.pool).taken in t pin.0 ≡ false) → Appends v w g d pin
appends v w g d pin same e rv rw' ww junction driver apart path free =
    let k = junction.1.0 in
    let live : kind_at v.kinds g ≡ Some k = kind-of v g _ junction.1.1.0.1 in
    let ne = not-constant v ww.shape g k junction.0 live junction.1.1.1 in
    record {
      wired = wired-appended v w pin.0 g d k same e rv rw' ww ne.0 live (no-parity k junction.0 junction.1.1.1) (not-source k junction.0 junction.1.1.1) ne.1 (live-in v d driver) apart path;
      net = net-appended v w pin.0 g d k same e rv rw' ww ne.0 live;
      undos = back-appended v w pin.0 g d k same e rv rw' ww ne.0 live pin refl free;
    }
