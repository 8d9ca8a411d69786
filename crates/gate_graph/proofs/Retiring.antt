-- A gate goes, pin by pin.
use Rattle.std.proofs.Common.{◌≡◌, ◌≢◌, ℕ, ◌+◌, ◌<◌, true, false, List, [], ◌∷◌, length, map, subst, Option, Some, None, refl, sym, ap, ◌∙◌, arith, inl, inr}
use Rattle.std.specs.Prelude.{slice_get}
use Rattle.std.specs.Option.{option_map}
use mathlib.Core.Path.{fun_ext}
use Rattle.std.proofs.lemmas.Bool.{cases_eq, ne_eqb, false≢true, false_from_ne_true}
use Rattle.std.proofs.lemmas.Option.{slice_get-map}
use Rattle.std.proofs.lemmas.List.{length-map}
use Rattle.gate_net.specs.declared.Kind.{Kind}
use Rattle.gate_net.specs.declared.Kind.TheVariants.{Source, Zero, One}
use Rattle.gate_net.specs.Net.{node_at, drivers_of}
use Rattle.gate_net.specs.Net.{IsGate, IsGateKind}
use Rattle.gate_net.specs.Edits.{IsUnread, DiffersAt}
use Rattle.pin_pool.proofs.Public.{changed-back, changed-other, changed-same, length-without}
use Rattle.pin_pool.specs.Ring.{has}
use Rattle.pin_pool.specs.Pins.{Pins, list_of}
use Rattle.pin_pool.specs.declared.names.PinNo.{PinNo}
use Rattle.pin_pool.specs.declared.names.Slot.{Slot}
use Rattle.gate_graph.specs.declared.undo_list.Undo.{Undo}
use Rattle.gate_graph.specs.declared.undo_list.Undo.TheVariants.{Removed, Retired}
use Rattle.pin_pool.specs.Rings.{Rings, AreRings, Stood, rings_of, unlinked, changed, all_without}
use Rattle.gate_graph.specs.Wirings.{Wiring, IsShaped, IsWired, AreFirst, kind_at}
use Rattle.gate_graph.specs.Undoing.{LeadOn}
use Rattle.gate_graph.specs.Circuit.{Circuit, wiring, net_of, fanouts_of, fans_in, node_with, gate_pins, home}
use Rattle.gate_graph.specs.Inner.Emptied.{IsEmptied}
use Rattle.gate_graph.proofs.NetOf.{home-here, map-same, node_at-net, observed-net, drivers-there}
use Rattle.gate_graph.proofs.LeadOns.{lead-by, lead-trans, within-length, kind-of}
use Rattle.gate_graph.proofs.Firsts.{first-changed, gate-no_first, none-no_first}
use Rattle.gate_graph.specs.Readers.{GateGoes}
use Rattle.gate_graph.proofs.Extended.{fans-stripped, fans-none}
use Rattle.gate_graph.proofs.Ranked.{reads-by, some-at}
use Rattle.gate_graph.proofs.KindAt.{kind-within}
use Rattle.gate_graph.proofs.Removed.{had, keeps, elsewhere, back-removed}

-- before any pin goes
pub emptied-start : (v : Circuit) (g : ℕ) (es : List Undo) → AreRings (rings_of v.pool) → IsWired (wiring v) → IsEmptied v v g es es
emptied-start v g es rv ww = record {
  rings = rv;
  kinds = refl;
  less_in = λ n q h. h;
  less_out = λ n q h. h;
  others = λ n ne. refl;
  stay = λ n q h out. h;
  driven = ww.shape.driven;
  read = λ n q h g k. k;
  fans = λ n. refl;
  undos = record { back = λ go. go; to = refl; within = λ h. h };
}

-- one pin more goes
pub emptied-step : (v w u : Circuit) (g : ℕ) (pin : PinNo) (slot : Slot) (es fs : List Undo) → IsWired (wiring v) → g ≢ 0 → IsEmptied v w g es fs → u.kinds ≡ w.kinds → rings_of u.pool ≡ unlinked pin.0 (rings_of w.pool) → AreRings (rings_of u.pool) → has pin.0 (list_of w.pool.inputs g) ≡ true → Stood (rings_of w.pool) pin.0 slot → IsEmptied v u g es (Removed pin slot ∷ fs) × (length (list_of u.pool.inputs g) + 1 ≡ length (list_of w.pool.inputs g))
emptied-step v w u g pin slot es fs ww nz i same e ru at s =
    let p = pin.0 in
    let ins : ℕ → List ℕ = λ n. list_of w.pool.inputs n in
    let outs : ℕ → List ℕ = λ n. list_of w.pool.fanouts n in
    let input-now : (n : ℕ) → list_of u.pool.inputs n ≡ all_without p ins n = λ n. ap (λ (r : Rings). r.inputs n) e in
    let fanout-now : (n : ℕ) → list_of u.pool.fanouts n ≡ all_without p outs n = λ n. ap (λ (r : Rings). r.fanouts n) e in
    let gate : kind_at w.kinds slot.gate ≢ None = λ none. ww.shape.gates_live slot.gate p (i.less_in slot.gate p s.in_gate) (ap (λ (ks : List (Option Kind)). kind_at ks slot.gate) (sym i.kinds) ∙ none) in
    let driver : kind_at w.kinds slot.driver ≢ None = λ none. ww.shape.drivers_live slot.driver p (i.less_out slot.driver p s.in_driver) (ap (λ (ks : List (Option Kind)). kind_at ks slot.driver) (sym i.kinds) ∙ none) in (
      record {
        rings = ru;
        kinds = same ∙ i.kinds;
        less_in = λ n q h. i.less_in n q (had ins _ i.rings.inputs p n q (ap (has q) (sym (input-now n)) ∙ h)).0;
        less_out = λ n q h. i.less_out n q (had outs _ i.rings.fanouts p n q (ap (has q) (sym (fanout-now n)) ∙ h)).0;
        others = λ n ne. input-now n ∙ elsewhere ins _ i.rings.inputs p g n at ne ∙ i.others n ne;
        stay = λ n q h none. ap (has q) (fanout-now n) ∙ keeps outs _ i.rings.fanouts p n q (i.stay n q h none) (λ is. (
            let wrong : has q (list_of v.pool.inputs g) ≡ true = rw is (i.less_in g p at) in false≢true (sym none ∙ wrong)));
        driven = λ n q h. (
            let was = had ins _ i.rings.inputs p n q (ap (has q) (sym (input-now n)) ∙ h) in
            let by = i.driven n q was.0 in
            (by.0, ap (has q) (fanout-now by.0) ∙ keeps outs _ i.rings.fanouts p by.0 q by.1 was.1));
        read = λ n q h m k. (
            let was = had outs _ i.rings.fanouts p n q (ap (has q) (sym (fanout-now n)) ∙ h) in
            ap (has q) (input-now m) ∙ keeps ins _ i.rings.inputs p m q (i.read n q was.0 m k) was.1);
        fans = λ n. fans-stripped w.pool u.pool p g e i.rings ru nz at n ∙ i.fans n;
        undos = lead-trans v w u es fs (Removed pin slot ∷ fs) i.undos (back-removed w u p same e i.rings pin slot refl s gate driver fs);
      },
      ap (λ (l : List ℕ). length l + 1) (input-now g) ∙ length-without p (ins g) at,
    )

gate-not-constant : (k : Kind) → IsGateKind k → (k ≢ Zero) × (k ≢ One)
gate-not-constant k h = (λ is. subst (λ (x : Kind). IsGateKind x) is h, λ is. subst (λ (x : Kind). IsGateKind x) is h)

-- nothing reads a node without readers
pub no-fanouts : (v : Circuit) (g : ℕ) → AreRings (rings_of v.pool) → IsShaped (wiring v) → IsUnread (net_of v) g → (q : ℕ) → has q (list_of v.pool.fanouts g) ≡ true → ⊥
no-fanouts v g rv s un q h =
    let by = s.read g q h in
    elim (cases_eq by.0 0) [
      | inr ne ↦ let reads = reads-by v rv s by.0 g q ne by.1 h in un.unread by.0 reads.0 reads.1
      | inl is ↦
          let zero-has : has q (list_of v.pool.inputs 0) ≡ true = ap (λ (n : ℕ). has q (list_of v.pool.inputs n)) (sym is) ∙ by.1 in
          let at = some-at (list_of v.pool.inputs 0) q zero-has in
          un.unobserved (at.0, ap (λ (l : List ℕ). slice_get l at.0) (observed-net v) ∙ slice_get-map (home v.pool.fanouts) (list_of v.pool.inputs 0) at.0 ∙ ap (option_map (home v.pool.fanouts)) at.1 ∙ ap (λ (n : ℕ). Some n) (home-here v.pool.fanouts _ q g rv.fanouts h))
    ]

module _ (v w u : Circuit) (g : ℕ) (es fs : List Undo) (kind : Kind) (rv : AreRings (rings_of v.pool)) (ww : IsWired (wiring v)) (i : IsEmptied v w g es fs) (none : list_of w.pool.inputs g ≡ []) (live : kind_at v.kinds g ≡ Some kind) (gate : IsGateKind kind) (un : IsUnread (net_of v) g) (now : wiring u ≡ (let x : Wiring = record { kind = changed (λ n. kind_at w.kinds n) g None; rings = rings_of w.pool } in x)) where
  abbrev left : ℕ → Option Kind
  left n = changed (λ (m : ℕ). kind_at w.kinds m) g None n

  kind-was : (n : ℕ) → kind_at w.kinds n ≡ kind_at v.kinds n
  kind-was n = ap (λ (ks : List (Option Kind)). kind_at ks n) i.kinds

  left-other : (n : ℕ) → n ≢ g → left n ≡ kind_at v.kinds n
  left-other n ne = changed-other (λ (m : ℕ). kind_at w.kinds m) g None n ne ∙ kind-was n

  left-there : left g ≡ None
  left-there = changed-same (λ (m : ℕ). kind_at w.kinds m) g None

  not-zero : g ≢ 0
  not-zero is = (gate-not-constant kind gate).0 (let both : Some kind ≡ Some Zero = sym live ∙ ap (λ (n : ℕ). kind_at v.kinds n) is ∙ ww.shape.zero_is in cc)

  not-one : g ≢ 1
  not-one is = (gate-not-constant kind gate).1 (let both : Some kind ≡ Some One = sym live ∙ ap (λ (n : ℕ). kind_at v.kinds n) is ∙ ww.shape.one_is in cc)

  in-other : (n q : ℕ) → has q (list_of w.pool.inputs n) ≡ true → n ≢ g
  in-other n q h is = let wrong : has q [] ≡ true = ap (has q) (sym none) ∙ ap (λ (m : ℕ). has q (list_of w.pool.inputs m)) (sym is) ∙ h in (let both : false ≡ true = wrong in cc)

  out-other : (n q : ℕ) → has q (list_of w.pool.fanouts n) ≡ true → n ≢ g
  out-other n q h is = no-fanouts v g rv ww.shape un q (ap (λ (m : ℕ). has q (list_of v.pool.fanouts m)) (sym is) ∙ i.less_out n q h)

  -- a pin of another gate is none of this
  apart : (n q : ℕ) → n ≢ g → has q (list_of v.pool.inputs n) ≡ true → has q (list_of v.pool.inputs g) ≡ false
  apart n q ne h = false_from_ne_true _ (λ k. ne (rv.inputs.one n g q h k))

  shaped-now : IsShaped (record { kind = left; rings = rings_of w.pool })
  shaped-now =
      let s = ww.shape in record {
        zero_is = left-other 0 (λ is. not-zero (sym is)) ∙ s.zero_is;
        one_is = left-other 1 (λ is. not-one (sym is)) ∙ s.one_is;
        one_reads = i.others 1 (λ is. not-one (sym is)) ∙ s.one_reads;
        gates_live = λ n q h e. s.gates_live n q (i.less_in n q h) (sym (left-other n (in-other n q h)) ∙ e);
        drivers_live = λ n q h e. s.drivers_live n q (i.less_out n q h) (sym (left-other n (out-other n q h)) ∙ e);
        driven = i.driven;
        read = λ n q h. (
            let was = i.less_out n q h in
            let by = s.read n q was in
            (by.0, i.read n q h by.0 by.1));
        parities = λ y k t is some. (
            let ne : y ≢ g = λ here. (let both : None ≡ Some k = sym left-there ∙ ap left (sym here) ∙ is in cc) in
            ap length (i.others y ne) ∙ s.parities y k t (sym (left-other y ne) ∙ is) some);
        sources = s.sources;
        first = first-changed (λ n. kind_at w.kinds n) g s.sources None (subst (λ (f : ℕ → Option Kind). AreFirst f s.sources) (fun_ext (λ n. sym (kind-was n))) s.first) (rw (kind-was g ∙ live) (gate-no_first kind gate)) none-no_first;
        sources_read = λ y is. (
            let ne : y ≢ g = λ here. (let both : None ≡ Some Source = sym left-there ∙ ap left (sym here) ∙ is in cc) in
            i.others y ne ∙ s.sources_read y (sym (left-other y ne) ∙ is));
      }

  pub wired-retired : IsWired (wiring u)
  wired-retired =
      let x : Wiring = record { kind = left; rings = rings_of w.pool } in
      let wired : IsWired x = record {
        shape = shaped-now;
        rank = ww.rank;
        ranked = λ n m q ne h k. ww.ranked n m q ne (i.less_in n q h) (i.less_out m q k);
      } in
      subst (λ (y : Wiring). IsWired y) (sym now) wired

  kind-now : (n : ℕ) → kind_at u.kinds n ≡ left n
  kind-now n = ap (λ (x : Wiring). x.kind n) now

  input-now : (n : ℕ) → list_of u.pool.inputs n ≡ list_of w.pool.inputs n
  input-now n = ap (λ (x : Wiring). x.rings.inputs n) now

  fanout-now : (n : ℕ) → list_of u.pool.fanouts n ≡ list_of w.pool.fanouts n
  fanout-now n = ap (λ (x : Wiring). x.rings.fanouts n) now

  once-now : AreRings (rings_of u.pool)
  once-now = subst (λ (r : Rings). AreRings r) (sym (ap (λ (x : Wiring). x.rings) now)) i.rings

  homes-other : (n : ℕ) → n ≢ g → map (home u.pool.fanouts) (list_of u.pool.inputs n) ≡ map (home v.pool.fanouts) (list_of v.pool.inputs n)
  homes-other n ne =
      ap (map (home u.pool.fanouts)) (input-now n ∙ i.others n ne)
      ∙ map-same (home u.pool.fanouts) (home v.pool.fanouts) (list_of v.pool.inputs n) (λ q h.
      let by = ww.shape.driven n q h in
      home-here u.pool.fanouts _ q by.0 once-now.fanouts (ap (has q) (fanout-now by.0) ∙ i.stay by.0 q by.1 (apart n q ne h)) ∙ sym (home-here v.pool.fanouts _ q by.0 rv.fanouts by.1))

  gate-homes : (n : ℕ) → n ≢ g → map (home u.pool.fanouts) (gate_pins u.pool n) ≡ map (home v.pool.fanouts) (gate_pins v.pool n)
  gate-homes n ne = elim (cases_eq n 0) [
    | inl is ↦ rw is refl
    | inr ne' ↦ rw (ne_eqb n 0 ne') (homes-other n ne)
  ]

  pub net-retired : DiffersAt (net_of v) (net_of u) g × (node_at (net_of u) g ≡ None)
  net-retired = (
    record {
      others = λ n ne.
          node_at-net u n ∙ ap (λ (o : Option Kind). node_with o (map (home u.pool.fanouts) (gate_pins u.pool n))) (kind-now n ∙ left-other n ne)
          ∙ ap (node_with (kind_at v.kinds n)) (gate-homes n ne) ∙ sym (node_at-net v n);
      observed = observed-net u ∙ homes-other 0 (λ is. not-zero (sym is)) ∙ sym (observed-net v);
    },
    node_at-net u g ∙ ap (λ (o : Option Kind). node_with o (map (home u.pool.fanouts) (gate_pins u.pool g))) (kind-now g ∙ left-there),
  )

  pub back-retired : length u.kinds ≡ length w.kinds → LeadOn v u es (Retired g kind ∷ fs)
  back-retired len =
      let x : Wiring = record { kind = left; rings = rings_of w.pool } in
      let was : kind_at w.kinds g ≡ Some kind = kind-was g ∙ live in
      let kind-back : changed left g (Some kind) ≡ (λ n. kind_at w.kinds n) = ap (λ (o : Option Kind). changed left g o) (sym was) ∙ changed-back (λ (n : ℕ). kind_at w.kinds n) g None in
      lead-trans v w u es fs (Retired g kind ∷ fs) i.undos
      (lead-by w u (Retired g kind) fs x now left-there (λ j. record { kind = kind-back j; rings = rings_of w.pool })
      (λ within. (omega (arith, len, kind-within w.kinds g (λ e. (let both : Some kind ≡ None = sym was ∙ e in cc))), within-length (length w.kinds) (length u.kinds) fs len within)))

pub record Retires (v u : Circuit) (g : ℕ) (kind : Kind) (es fs : List Undo) : Type 0 where
  pub wired : IsWired (wiring u)
  pub net : DiffersAt (net_of v) (net_of u) g × (node_at (net_of u) g ≡ None)
  pub undos : LeadOn v u es (Retired g kind ∷ fs)

pub retires : (v w u : Circuit) (g : ℕ) (kind : Kind) (es fs : List Undo) → AreRings (rings_of v.pool) → IsWired (wiring v) → IsEmptied v w g es fs → list_of w.pool.inputs g ≡ [] → IsGate (net_of v) g → kind_at w.kinds g ≡ Some kind → IsUnread (net_of v) g → wiring u ≡ (let x : Wiring = record { kind = changed (λ n. kind_at w.kinds n) g None; rings = rings_of w.pool } in x) → length u.kinds ≡ length w.kinds → Retires v u g kind es fs
retires v w u g kind es fs rv ww i none gate is un now len =
    let live : kind_at v.kinds g ≡ Some kind = ap (λ (ks : List (Option Kind)). kind_at ks g) (sym i.kinds) ∙ is in
    let found = kind-of v g _ gate.1.0.1 in
    let same : gate.0 ≡ kind = (let both : Some gate.0 ≡ Some kind = sym found ∙ live in cc) in
    let k : IsGateKind kind = subst (λ (x : Kind). IsGateKind x) same gate.1.1 in
    record {
      wired = wired-retired v w u g es fs kind rv ww i none live k un now;
      net = net-retired v w u g es fs kind rv ww i none live k un now;
      undos = back-retired v w u g es fs kind rv ww i none live k un now len;
    }

pub retire-count : (v : Circuit) (g : ℕ) → IsShaped (wiring v) → IsGate (net_of v) g → length (drivers_of (net_of v) g) ≡ length (list_of v.pool.inputs g)
retire-count v g s gate =
    let live = kind-of v g _ gate.1.0.1 in
    let ne : g ≢ 0 = λ is. (gate-not-constant gate.0 gate.1.1).0 (let both : Some gate.0 ≡ Some Zero = sym live ∙ ap (λ (n : ℕ). kind_at v.kinds n) is ∙ s.zero_is in cc) in
    ap length (drivers-there v g gate.0 ne live) ∙ length-map (list_of v.pool.inputs g) (home v.pool.fanouts)

pub none-first : (xs : List ℕ) → slice_get xs 0 ≡ None → xs ≡ []
none-first [] e = refl
none-first (x ∷ xs) e = cc

pub some-first : (xs : List ℕ) → (p : ℕ) → has p xs ≡ true → 0 < length xs
some-first [] p h = cc
some-first (x ∷ xs) p h = omega arith

pub gate-goes : (v w u : Circuit) (g : ℕ) (es fs : List Undo) → IsEmptied v w g es fs → list_of w.pool.inputs g ≡ [] → u.pool ≡ w.pool → GateGoes v u g
unfolding fanouts_of
gate-goes v w u g es fs i none same n = ap (λ (x : Pins). fans_in x n) same ∙ sym (fans-none w.pool g i.rings none n) ∙ i.fans n

pub gate-not_zero : (v : Circuit) (g : ℕ) → IsShaped (wiring v) → IsGate (net_of v) g → g ≢ 0
gate-not_zero v g s gate is =
    let live = kind-of v g _ gate.1.0.1 in
    (gate-not-constant gate.0 gate.1.1).0 (let both : Some gate.0 ≡ Some Zero = sym live ∙ ap (λ (n : ℕ). kind_at v.kinds n) is ∙ s.zero_is in cc)
