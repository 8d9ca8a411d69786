-- A gate is made, pin by pin.
use Rattle.std.proofs.Common.{◌≡◌, ◌≢◌, ℕ, zero, suc, ◌+◌, ◌<◌, Bool, true, false, List, [], ◌∷◌, ◌++◌, length, map, take, get_or, subst, Option, Some, None, refl, sym, ap, ◌∙◌, arith, inl, inr, append-nil}
use mathlib.Core.Path.{fun_ext}
use Rattle.std.proofs.lemmas.Bool.{cases_eq, ne_eqb, eq-eqb, or_left, or_right}
use Rattle.std.proofs.lemmas.Bool.Decides.{eqb_tells}
use Rattle.std.proofs.lemmas.List.{map-append, length-map, take_more}
use Rattle.gate_net.specs.declared.Kind.{Kind}
use Rattle.gate_net.specs.declared.Kind.TheVariants.{Source, Zero, One, Not, Xor}
use Rattle.gate_net.specs.declared.Family.{Family}
use Rattle.gate_net.specs.declared.Family.TheVariants.{Constant, Input, Junction, Parity}
use Rattle.gate_net.specs.Meaning.{family, inversion, inversion_in}
use Rattle.gate_net.proofs.Public.{parity_is}
use Rattle.gate_net.specs.Net.{node_at}
use Rattle.rm_base.specs.declared.numbers.NodeId.{NodeId}
use Rattle.gate_net.specs.Net.{IsGateKind}
use Rattle.gate_net.specs.Edits.{DiffersAt}
use Rattle.pin_pool.proofs.Public.{changed-other, changed-same, has-push}
use Rattle.pin_pool.specs.Ring.{has}
use Rattle.pin_pool.specs.Pins.{Pins, list_of}
use Rattle.pin_pool.specs.Rings.{Rings, AreRings, rings_of, linked, changed}
use Rattle.gate_graph.specs.Wirings.{IsShaped, IsWired, kind_at, parity_pins}
use Rattle.gate_graph.specs.Inner.Filled.{IsFilled}
use Rattle.gate_graph.specs.Circuit.{Circuit, wiring, net_of, fanouts_of, fans_in, node_with, gate_pins, home}
use Rattle.gate_graph.proofs.NetOf.{home-here, map-same, node_at-net, observed-net}
use Rattle.gate_graph.proofs.Firsts.{first-changed, gate-no_first, none-no_first}
use Rattle.gate_graph.specs.Spots.{places_from}
use Rattle.gate_graph.specs.Readers.{NewReaders}
use Rattle.gate_graph.proofs.Extended.{fans-next}
use Rattle.gate_graph.proofs.PlaceLists.{places-start, append-three}
use Rattle.gate_graph.proofs.Appended.{pushed, pushed-has, pushed-keeps, pushed-had}

has-more : (ds : List ℕ) (d x : ℕ) → has x ds ≡ true → has x (ds ++ d ∷ []) ≡ true
has-more ds d x h = has-push ds d x ∙ or_left _ _ h

has-last : (ds : List ℕ) (d : ℕ) → has d (ds ++ d ∷ []) ≡ true
has-last ds d = has-push ds d d ∙ or_right _ _ (eq-eqb d d refl)

inverting : (f : Family) (i : Bool) → inversion_in f ≡ Some i → f ≡ Parity i
inverting Input i e = cc
inverting (Constant b) i e = cc
inverting (Junction c) i e = cc
inverting (Parity j) i e = let same : j ≡ i = cc in ap (λ b. Parity b) same

-- a Not has one pin, and an Xor two
pub parity-count : (kind : Kind) (n : ℕ) → (kind ≡ Not → n ≡ 1) → (kind ≡ Xor → n ≡ 2) → (i : Bool) → inversion kind ≡ Some i → n ≡ parity_pins i
parity-count kind n one two true e = one (parity_is kind true (inverting (family kind) true e))
parity-count kind n one two false e = two (parity_is kind false (inverting (family kind) false e))

-- before any pin is made
pub filled-start : (v : Pins) (n : ℕ) → AreRings (rings_of v) → list_of v.inputs n ≡ [] → IsFilled v v n []
filled-start v n rv none = record {
  rings = rv;
  old_in = λ m ne. refl;
  old_out = λ m q h. h;
  fans = λ m. sym (append-nil (fans_in v m));
  homes = ap (map (home v.fanouts)) none;
  driven = λ q h. (let wrong : has q [] ≡ true = ap (has q) (sym none) ∙ h in cc);
  had_out = λ m q h. inl h;
}

-- one pin more
pub filled-step : (v w u : Pins) (n p d : ℕ) (ds : List ℕ) → n ≢ 0 → IsFilled v w n ds → rings_of u ≡ linked p n d (rings_of w) → AreRings (rings_of u) → (let t : ℕ → Bool = (rings_of w).taken in t p ≡ false) → IsFilled v u n (ds ++ d ∷ [])
filled-step v w u n p d ds ne i e ru free =
    let ins : ℕ → List ℕ = λ m. list_of w.inputs m in
    let outs : ℕ → List ℕ = λ m. list_of w.fanouts m in
    let input-now : (m : ℕ) → list_of u.inputs m ≡ pushed ins n p m = λ m. ap (λ (r : Rings). r.inputs m) e in
    let fanout-now : (m : ℕ) → list_of u.fanouts m ≡ pushed outs d p m = λ m. ap (λ (r : Rings). r.fanouts m) e in
    let old : (q : ℕ) → has q (ins n) ≡ true → home u.fanouts q ≡ home w.fanouts q = λ q h. (
    let by = i.driven q h in
    home-here u.fanouts _ q by.0 ru.fanouts (ap (has q) (fanout-now by.0) ∙ pushed-keeps outs d p by.0 q by.1.0) ∙ sym (home-here w.fanouts _ q by.0 i.rings.fanouts by.1.0)) in
    let new : home u.fanouts p ≡ d = home-here u.fanouts _ p d ru.fanouts (ap (has p) (fanout-now d) ∙ pushed-has outs d p) in
    record {
      rings = ru;
      old_in = λ m ne. input-now m ∙ changed-other ins n (ins n ++ p ∷ []) m ne ∙ i.old_in m ne;
      old_out = λ m q h. ap (has q) (fanout-now m) ∙ pushed-keeps outs d p m q (i.old_out m q h);
      fans = λ m.
          let count : length (ins n) ≡ length ds = sym (length-map (ins n) (home w.fanouts)) ∙ ap length i.homes in
          fans-next w u p n d e i.rings ru free ne m
          ∙ ap (λ (l : List (ℕ × ℕ)). l ++ places_from n (length (ins n)) (d ∷ []) m) (i.fans m)
          ∙ append-three (fans_in v m) (places_from n 0 ds m) (places_from n (length (ins n)) (d ∷ []) m)
          ∙ ap (λ (l : List (ℕ × ℕ)). fans_in v m ++ l) (ap (λ (k : ℕ). places_from n 0 ds m ++ places_from n k (d ∷ []) m) count ∙ sym (places-start n ds d m));
      homes = ap (map (home u.fanouts)) (input-now n ∙ changed-same ins n (ins n ++ p ∷ [])) ∙ map-append (home u.fanouts) (ins n) (p ∷ [])
          ∙ ap (λ (l : List ℕ). l ++ home u.fanouts p ∷ []) (map-same (home u.fanouts) (home w.fanouts) (ins n) old ∙ i.homes) ∙ ap (λ (x : ℕ). ds ++ x ∷ []) new;
      driven = λ q h. elim (pushed-had ins n p n q (ap (has q) (sym (input-now n)) ∙ h)) [
        | inl was ↦ let by = i.driven q was in (by.0, (ap (has q) (fanout-now by.0) ∙ pushed-keeps outs d p by.0 q by.1.0, has-more ds d by.0 by.1.1))
        | inr this ↦ (d, (ap (has q) (fanout-now d) ∙ ap (λ (r : ℕ). has r (pushed outs d p d)) this.1 ∙ pushed-has outs d p, has-last ds d))
      ];
      had_out = λ m q h. elim (pushed-had outs d p m q (ap (has q) (sym (fanout-now m)) ∙ h)) [
        | inl was ↦ elim (i.had_out m q was) [
          | inl before ↦ inl before
          | inr among ↦ inr (ap (has q) (input-now n) ∙ pushed-keeps ins n p n q among.0, has-more ds d m among.1)
        ]
        | inr this ↦ inr (ap (has q) (input-now n) ∙ ap (λ (r : ℕ). has r (pushed ins n p n)) this.1 ∙ pushed-has ins n p, ap (λ (x : ℕ). has x (ds ++ d ∷ [])) this.0 ∙ has-last ds d)
      ];
    }

module _ (v w : Circuit) (n : ℕ) (kind : Kind) (ds : List ℕ) (rv : AreRings (rings_of v.pool)) (ww : IsWired (wiring v)) (free : kind_at v.kinds n ≡ None) (i : IsFilled v.pool w.pool n ds) (now : (m : ℕ) → kind_at w.kinds m ≡ changed (λ m. kind_at v.kinds m) n (Some kind) m) (live : (d : ℕ) → has d ds ≡ true → kind_at v.kinds d ≢ None) (count : (i : Bool) → inversion kind ≡ Some i → length ds ≡ parity_pins i) (gate : IsGateKind kind) where
  abbrev kinds : ℕ → Option Kind
  kinds m = kind_at v.kinds m

  not-zero : n ≢ 0
  not-zero is = let both : Some Zero ≡ None = sym ww.shape.zero_is ∙ ap kinds (sym is) ∙ free in cc

  not-one : n ≢ 1
  not-one is = let both : Some One ≡ None = sym ww.shape.one_is ∙ ap kinds (sym is) ∙ free in cc

  live-other : (m : ℕ) → kinds m ≢ None → m ≢ n
  live-other m l is = l (ap kinds is ∙ free)

  kind-other : (m : ℕ) → m ≢ n → kind_at w.kinds m ≡ kinds m
  kind-other m ne = now m ∙ changed-other kinds n (Some kind) m ne

  kind-there : kind_at w.kinds n ≡ Some kind
  kind-there = now n ∙ changed-same kinds n (Some kind)

  still-live : (m : ℕ) → kinds m ≢ None → kind_at w.kinds m ≢ None
  still-live m l none = l (sym (kind-other m (live-other m l)) ∙ none)

  home-old : (m q : ℕ) → has q (list_of v.pool.inputs m) ≡ true → home w.pool.fanouts q ≡ home v.pool.fanouts q
  home-old m q h =
      let by = ww.shape.driven m q h in
      home-here w.pool.fanouts _ q by.0 i.rings.fanouts (i.old_out by.0 q by.1) ∙ sym (home-here v.pool.fanouts _ q by.0 rv.fanouts by.1)

  homes-other : (m : ℕ) → m ≢ n → map (home w.pool.fanouts) (list_of w.pool.inputs m) ≡ map (home v.pool.fanouts) (list_of v.pool.inputs m)
  homes-other m ne = ap (map (home w.pool.fanouts)) (i.old_in m ne) ∙ map-same (home w.pool.fanouts) (home v.pool.fanouts) (list_of v.pool.inputs m) (home-old m)

  gate-homes : (m : ℕ) → m ≢ n → map (home w.pool.fanouts) (gate_pins w.pool m) ≡ map (home v.pool.fanouts) (gate_pins v.pool m)
  gate-homes m ne = elim (cases_eq m 0) [
    | inl is ↦ rw is refl
    | inr ne' ↦ rw (ne_eqb m 0 ne') (homes-other m ne)
  ]

  pub net-filled : DiffersAt (net_of v) (net_of w) n × (node_at (net_of w) n ≡ Some (record { kind = kind; drivers = ds }))
  net-filled = (
    record {
      others = λ m ne. node_at-net w m ∙ ap (λ (o : Option Kind). node_with o (map (home w.pool.fanouts) (gate_pins w.pool m))) (kind-other m ne) ∙ ap (node_with (kinds m)) (gate-homes m ne) ∙ sym (node_at-net v m);
      observed = observed-net w ∙ homes-other 0 (λ is. not-zero (sym is)) ∙ sym (observed-net v);
    },
    node_at-net w n ∙ ap (λ (o : Option Kind). node_with o (map (home w.pool.fanouts) (gate_pins w.pool n))) kind-there ∙ ap (node_with (Some kind)) (rw (ne_eqb n 0 not-zero) i.homes),
  )

  kinds-now : (λ (m : ℕ). kind_at w.kinds m) ≡ changed (λ m. kind_at v.kinds m) n (Some kind)
  kinds-now = fun_ext now

  in-old : (m q : ℕ) → m ≢ n → has q (list_of w.pool.inputs m) ≡ true → has q (list_of v.pool.inputs m) ≡ true
  in-old m q ne h = ap (has q) (sym (i.old_in m ne)) ∙ h

  shaped-filled : IsShaped (wiring w)
  shaped-filled =
      let s = ww.shape in record {
        zero_is = kind-other 0 (λ is. not-zero (sym is)) ∙ s.zero_is;
        one_is = kind-other 1 (λ is. not-one (sym is)) ∙ s.one_is;
        one_reads = i.old_in 1 (λ is. not-one (sym is)) ∙ s.one_reads;
        gates_live = λ m q h none. elim (cases_eq m n) [
          | inl is ↦ (let both : Some kind ≡ None = sym kind-there ∙ ap (λ (x : ℕ). kind_at w.kinds x) (sym is) ∙ none in cc)
          | inr ne ↦ s.gates_live m q (in-old m q ne h) (sym (kind-other m ne) ∙ none)
        ];
        drivers_live = λ m q h. elim (i.had_out m q h) [ inl old ↦ still-live m (s.drivers_live m q old) | inr new ↦ still-live m (live m new.1) ];
        driven = λ m q h. elim (cases_eq m n) [
          | inl is ↦ let by = i.driven q (ap (λ (x : ℕ). has q (list_of w.pool.inputs x)) (sym is) ∙ h) in (by.0, by.1.0)
          | inr ne ↦ let by = s.driven m q (in-old m q ne h) in (by.0, i.old_out by.0 q by.1)
        ];
        read = λ m q h. elim (i.had_out m q h) [
          | inl old ↦
              let by = s.read m q old in
              (by.0, ap (has q) (i.old_in by.0 (live-other by.0 (s.gates_live by.0 q by.1))) ∙ by.1)
          | inr new ↦ (n, new.0)
        ];
        parities = λ y k t is some. elim (cases_eq y n) [
          | inr ne ↦ ap length (i.old_in y ne) ∙ s.parities y k t (sym (kind-other y ne) ∙ is) some
          | inl here ↦
              let this : kind ≡ k = (let both : Some kind ≡ Some k = sym kind-there ∙ ap (λ (x : ℕ). kind_at w.kinds x) (sym here) ∙ is in cc) in
              ap (λ (x : ℕ). length (list_of w.pool.inputs x)) here ∙ sym (length-map (list_of w.pool.inputs n) (home w.pool.fanouts)) ∙ ap length i.homes ∙ count t (ap inversion this ∙ some)
        ];
        sources = s.sources;
        first = rw (kinds-now) (first-changed (λ m. kind_at v.kinds m) n s.sources (Some kind) s.first (rw free none-no_first) (gate-no_first kind gate));
        sources_read = λ y is. elim (cases_eq y n) [
          | inr ne ↦ i.old_in y ne ∙ s.sources_read y (sym (kind-other y ne) ∙ is)
          | inl here ↦
              let this : kind ≡ Source = (let both : Some kind ≡ Some Source = sym kind-there ∙ ap (λ (x : ℕ). kind_at w.kinds x) (sym here) ∙ is in cc) in
              absurd (subst (λ (k : Kind). IsGateKind k) this gate)
        ];
      }

  pub ranked-filled : (r : ℕ → ℕ) → ((d : ℕ) → has d ds ≡ true → ww.rank d < r n) → ((m : ℕ) → m ≢ n → r m ≡ ww.rank m) → IsWired (wiring w)
  ranked-filled r above same = record {
    shape = shaped-filled;
    rank = r;
    ranked = λ g m q ne h k. elim (cases_eq g n) [
      | inl is ↦
          let inside : has q (list_of w.pool.inputs n) ≡ true = ap (λ (x : ℕ). has q (list_of w.pool.inputs x)) (sym is) ∙ h in
          elim (i.had_out m q k) [
            | inr new ↦ rw (is, same m (live-other m (live m new.1))) (above m new.1)
            | inl old ↦
                let by = ww.shape.read m q old in
                let ne' = live-other by.0 (ww.shape.gates_live by.0 q by.1) in
                absurd (ne' (i.rings.inputs.one by.0 n q (ap (has q) (i.old_in by.0 ne') ∙ by.1) inside))
          ]
      | inr ne' ↦
          let was = in-old g q ne' h in
          elim (i.had_out m q k) [
            | inl old ↦ rw (same m (live-other m (ww.shape.drivers_live m q old)), same g ne') (ww.ranked g m q ne was old)
            | inr new ↦ absurd (ne' (i.rings.inputs.one g n q h new.0))
          ]
    ];
  }

abbrev rank_sum : (ℕ → ℕ) → List ℕ → ℕ
rank_sum r [] = 1
rank_sum r (d ∷ ds) = r d + rank_sum r ds

sum-some : (r : ℕ → ℕ) (ds : List ℕ) → 0 < rank_sum r ds
sum-some r [] = omega arith
sum-some r (d ∷ ds) = omega (arith, sum-some r ds)

above-sum : (r : ℕ → ℕ) (ds : List ℕ) (d : ℕ) → has d ds ≡ true → r d < rank_sum r ds
above-sum r [] d h = cc
above-sum r (x ∷ ds) d h = elim (eqb_tells d x) [
  | inl t ↦ rw t.1 (omega (arith, sum-some r ds))
  | inr t ↦ let later : has d ds ≡ true = rw t.0 at h in omega (arith, above-sum r ds d later)
]

-- what making a gate comes to
pub record Fills (v w : Circuit) (n : ℕ) (kind : Kind) (ds : List ℕ) : Type 0 where
  pub wired : IsWired (wiring w)
  pub differs : DiffersAt (net_of v) (net_of w) n
  pub node : node_at (net_of w) n ≡ Some (record { kind = kind; drivers = ds })

pub fills : (v w : Circuit) (n : ℕ) (kind : Kind) (ds : List ℕ) → AreRings (rings_of v.pool) → IsWired (wiring v) → kind_at v.kinds n ≡ None → IsFilled v.pool w.pool n ds → ((m : ℕ) → kind_at w.kinds m ≡ changed (λ m. kind_at v.kinds m) n (Some kind) m) → ((d : ℕ) → has d ds ≡ true → kind_at v.kinds d ≢ None) → ((i : Bool) → inversion kind ≡ Some i → length ds ≡ parity_pins i) → IsGateKind kind → Fills v w n kind ds
fills v w n kind ds rv ww free i now live count gate =
    let r : ℕ → ℕ = λ m. changed ww.rank n (rank_sum ww.rank ds) m in
    let net = net-filled v w n kind ds rv ww free i now live count gate in
    record {
      wired = ranked-filled v w n kind ds rv ww free i now live count gate r
          (λ d h. rw (changed-same ww.rank n (rank_sum ww.rank ds)) (above-sum ww.rank ds d h))
          (λ m ne. changed-other ww.rank n (rank_sum ww.rank ds) m ne);
      differs = net.0;
      node = net.1;
    }

pub has-nth : (xs : List NodeId) (k : ℕ) (d : NodeId) → k < length xs → (let x : NodeId = get_or xs k d in has x.0 (map (λ (n : NodeId). n.0) xs) ≡ true)
has-nth [] k d h = absurd (omega arith)
has-nth (x ∷ xs) zero d h = or_left _ _ (eq-eqb x.0 x.0 refl)
has-nth (x ∷ xs) (suc k) d h = or_right _ _ (has-nth xs k d (omega arith))

pub next-driver : (xs : List NodeId) (k : ℕ) (d : NodeId) → k < length xs → (let x : NodeId = get_or xs k d in map (λ (n : NodeId). n.0) (take (k + 1) xs) ≡ map (λ (n : NodeId). n.0) (take k xs) ++ x.0 ∷ [])
next-driver xs k d h = ap (map (λ (n : NodeId). n.0)) (take_more xs k d h) ∙ map-append (λ (n : NodeId). n.0) (take k xs) (get_or xs k d ∷ [])

pub new-readers : (v w : Circuit) (n : ℕ) (ds : List ℕ) → IsFilled v.pool w.pool n ds → NewReaders v w n ds
unfolding fanouts_of
new-readers v w n ds i m = i.fans m

pub free-not_zero : (v : Circuit) (n : ℕ) → IsShaped (wiring v) → kind_at v.kinds n ≡ None → n ≢ 0
free-not_zero v n s free is = let both : Some Zero ≡ None = sym s.zero_is ∙ ap (λ (m : ℕ). kind_at v.kinds m) (sym is) ∙ free in cc
