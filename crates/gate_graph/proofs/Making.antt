-- A Not is made.
use Rattle.std.proofs.Common.{◌≡◌, ◌≢◌, ℕ, suc, ◌<◌, Bool, true, false, List, [], ◌∷◌, ◌++◌, length, map, subst, Option, Some, None, refl, sym, ap, ◌∙◌, arith, inl, inr}
use Rattle.std.proofs.lemmas.Bool.{cases_eq, cases_lt, ne_eqb, false≢true}
use Rattle.gate_net.specs.declared.Kind.{Kind}
use Rattle.gate_net.specs.declared.Kind.TheVariants.{Source, Zero, One, Not}
use Rattle.gate_net.specs.Meaning.{inversion}
use Rattle.gate_net.specs.Net.{node_at}
use Rattle.gate_net.specs.Net.{IsLive}
use Rattle.pin_pool.proofs.Public.{changed-back, changed-other, changed-same}
use Rattle.pin_pool.specs.Ring.{has}
use Rattle.pin_pool.specs.Pins.{list_of}
use Rattle.pin_pool.specs.declared.names.PinNo.{PinNo}
use Rattle.gate_graph.specs.declared.undo_list.Undo.{Undo}
use Rattle.gate_graph.specs.declared.undo_list.Undo.TheVariants.{Made}
use Rattle.pin_pool.specs.Rings.{Rings, AreRings, rings_of, linked, dropped, changed}
use Rattle.gate_graph.specs.Wirings.{free_in, Wiring, IsShaped, IsWired, kind_at}
use Rattle.gate_graph.specs.Undoing.{CanTakeBack, LeadOn}
use Rattle.gate_net.specs.Edits.{MakesGate}
use Rattle.gate_graph.specs.Circuit.{Circuit, wiring, net_of, node_with, gate_pins, home}
use Rattle.gate_graph.specs.Inner.Circuit.{kinds_live}
use Rattle.gate_graph.proofs.NetOf.{home-here, map-same, node_at-net, observed-net}
use Rattle.gate_graph.proofs.LeadOns.{lead-by, live-in, within-length}
use Rattle.gate_graph.proofs.Firsts.{first-changed, gate-no_first, none-no_first}
use Rattle.gate_graph.proofs.Pinned.{dead-pins}
use Rattle.gate_graph.proofs.Numbers.{has-free}
use Rattle.gate_graph.proofs.Appended.{pushed, pushed-has, pushed-keeps, pushed-had, fresh-out, dropped-linked}

pub free-found : (kinds : List (Option Kind)) (n : ℕ) → 0 < free_in kinds → kinds_live kinds n → n < length kinds
free-found kinds n some live = elim (cases_lt n (length kinds)) [
  | inl lt ↦ lt
  | inr le ↦ let free = has-free kinds some in absurd (live free.0 (let h = free.1.0 in omega (arith, h)) free.1.1)
]

some-not-none : (k : Kind) → (let o : Option Kind = Some k in o) ≢ None
some-not-none k e = cc

module _ (v w : Circuit) (p n d : ℕ) (e : rings_of w.pool ≡ linked p n d (rings_of v.pool)) (rv : AreRings (rings_of v.pool)) (rw' : AreRings (rings_of w.pool)) (ww : IsWired (wiring v)) (free : kind_at v.kinds n ≡ None) (now : wiring w ≡ (let x : Wiring = record { kind = changed (λ m. kind_at v.kinds m) n (Some Not); rings = linked p n d (rings_of v.pool) } in x)) (fresh : (let t : ℕ → Bool = (rings_of v.pool).taken in t p ≡ false)) (driver : kind_at v.kinds d ≢ None) where
  abbrev ins : ℕ → List ℕ
  ins m = list_of v.pool.inputs m

  abbrev outs : ℕ → List ℕ
  outs m = list_of v.pool.fanouts m

  abbrev kinds : ℕ → Option Kind
  kinds m = kind_at v.kinds m

  abbrev made : ℕ → Option Kind
  made m = changed kinds n (Some Not) m

  input-now : (m : ℕ) → list_of w.pool.inputs m ≡ pushed ins n p m
  input-now m = ap (λ (r : Rings). r.inputs m) e

  fanout-now : (m : ℕ) → list_of w.pool.fanouts m ≡ pushed outs d p m
  fanout-now m = ap (λ (r : Rings). r.fanouts m) e

  kind-now : (m : ℕ) → kind_at w.kinds m ≡ made m
  kind-now m = ap (λ (x : Wiring). x.kind m) now

  home-old : (m q : ℕ) → has q (ins m) ≡ true → home w.pool.fanouts q ≡ home v.pool.fanouts q
  home-old m q h =
      let by = ww.shape.driven m q h in
      home-here w.pool.fanouts _ q by.0 rw'.fanouts (ap (has q) (fanout-now by.0) ∙ pushed-keeps outs d p by.0 q by.1) ∙ sym (home-here v.pool.fanouts _ q by.0 rv.fanouts by.1)

  home-new : home w.pool.fanouts p ≡ d
  home-new = home-here w.pool.fanouts _ p d rw'.fanouts (ap (has p) (fanout-now d) ∙ pushed-has outs d p)

  not-zero : n ≢ 0
  not-zero is = let both : Some Zero ≡ None = sym ww.shape.zero_is ∙ ap kinds (sym is) ∙ free in cc

  not-one : n ≢ 1
  not-one is = let both : Some One ≡ None = sym ww.shape.one_is ∙ ap kinds (sym is) ∙ free in cc

  live-other : (m : ℕ) → kinds m ≢ None → m ≢ n
  live-other m live is = live (ap kinds is ∙ free)

  still-live : (m : ℕ) → kinds m ≢ None → made m ≢ None
  still-live m live none = live (sym (changed-other kinds n (Some Not) m (live-other m live)) ∙ none)

  homes-other : (m : ℕ) → m ≢ n → map (home w.pool.fanouts) (list_of w.pool.inputs m) ≡ map (home v.pool.fanouts) (ins m)
  homes-other m ne = ap (map (home w.pool.fanouts)) (input-now m ∙ changed-other ins n (ins n ++ p ∷ []) m ne) ∙ map-same (home w.pool.fanouts) (home v.pool.fanouts) (ins m) (home-old m)

  gate-homes : (m : ℕ) → m ≢ n → map (home w.pool.fanouts) (gate_pins w.pool m) ≡ map (home v.pool.fanouts) (gate_pins v.pool m)
  gate-homes m ne = elim (cases_eq m 0) [
    | inl is ↦ rw is refl
    | inr ne' ↦ rw (ne_eqb m 0 ne') (homes-other m ne)
  ]

  node-other : (m : ℕ) → m ≢ n → node_at (net_of w) m ≡ node_at (net_of v) m
  node-other m ne =
      node_at-net w m ∙ ap (λ (o : Option Kind). node_with o (map (home w.pool.fanouts) (gate_pins w.pool m))) (kind-now m ∙ changed-other kinds n (Some Not) m ne)
      ∙ ap (node_with (kinds m)) (gate-homes m ne) ∙ sym (node_at-net v m)

  pins-there : gate_pins w.pool n ≡ p ∷ []
  pins-there = rw (ne_eqb n 0 not-zero) (input-now n ∙ changed-same ins n (ins n ++ p ∷ []) ∙ ap (λ (l : List ℕ). l ++ p ∷ []) (dead-pins v ww.shape n free))

  node-there : node_at (net_of w) n ≡ Some (record { kind = Not; drivers = d ∷ [] })
  node-there =
      node_at-net w n ∙ ap (λ (o : Option Kind). node_with o (map (home w.pool.fanouts) (gate_pins w.pool n))) (kind-now n ∙ changed-same kinds n (Some Not))
      ∙ ap (λ (l : List ℕ). node_with (Some Not) (map (home w.pool.fanouts) l)) pins-there ∙ ap (λ (x : ℕ). node_with (Some Not) (x ∷ [])) home-new

  dead-node : node_at (net_of v) n ≡ None
  dead-node = node_at-net v n ∙ ap (λ (o : Option Kind). node_with o (map (home v.pool.fanouts) (gate_pins v.pool n))) free

  live-node : (m : ℕ) → kinds m ≢ None → node_at (net_of v) m ≢ None
  live-node m live none = live (by (kinds m) (map (home v.pool.fanouts) (gate_pins v.pool m)) (sym (node_at-net v m) ∙ none))
    where
      by : (o : Option Kind) (ds : List ℕ) → node_with o ds ≡ None → o ≡ None
      by None ds e = refl
      by (Some k) ds e = cc

  pub net-made : kinds_live v.kinds n → MakesGate (net_of v) (net_of w) Not (d ∷ []) n
  net-made least = record {
    number = record { free = dead-node; least = λ m h. live-node m (least m h) };
    differs = record {
      others = node-other;
      observed = observed-net w ∙ homes-other 0 (λ is. not-zero (sym is)) ∙ sym (observed-net v);
    };
    made = node-there;
  }

  shaped-now : IsShaped (record { kind = made; rings = linked p n d (rings_of v.pool) })
  shaped-now =
      let s = ww.shape in record {
        zero_is = changed-other kinds n (Some Not) 0 (λ is. not-zero (sym is)) ∙ s.zero_is;
        one_is = changed-other kinds n (Some Not) 1 (λ is. not-one (sym is)) ∙ s.one_is;
        one_reads = changed-other ins n (ins n ++ p ∷ []) 1 (λ is. not-one (sym is)) ∙ s.one_reads;
        gates_live = λ g q h. elim (pushed-had ins n p g q h) [ inl old ↦ still-live g (s.gates_live g q old) | inr new ↦ rw (new.0, changed-same kinds n (Some Not)) (some-not-none Not) ];
        drivers_live = λ m q h. elim (pushed-had outs d p m q h) [ inl old ↦ still-live m (s.drivers_live m q old) | inr new ↦ rw new.0 (still-live d driver) ];
        driven = λ m q h. elim (pushed-had ins n p m q h) [
          | inl old ↦ let by = s.driven m q old in (by.0, pushed-keeps outs d p by.0 q by.1)
          | inr new ↦ (d, rw new.1 (pushed-has outs d p))
        ];
        read = λ m q h. elim (pushed-had outs d p m q h) [
          | inl old ↦ let by = s.read m q old in (by.0, pushed-keeps ins n p by.0 q by.1)
          | inr new ↦ (n, rw new.1 (pushed-has ins n p))
        ];
        parities = λ y k i is some. elim (cases_eq y n) [
          | inl here ↦
              let this : Not ≡ k = (let both : Some Not ≡ Some k = sym (changed-same kinds n (Some Not)) ∙ ap made (sym here) ∙ is in cc) in
              let turns : i ≡ true = (let both : Some true ≡ Some i = ap inversion this ∙ some in cc) in
              rw (here, turns) (ap length (changed-same ins n (ins n ++ p ∷ []) ∙ ap (λ (l : List ℕ). l ++ p ∷ []) (dead-pins v s n free)))
          | inr ne ↦ ap length (changed-other ins n (ins n ++ p ∷ []) y ne) ∙ s.parities y k i (sym (changed-other kinds n (Some Not) y ne) ∙ is) some
        ];
        sources = s.sources;
        first = first-changed kinds n s.sources (Some Not) s.first (rw free none-no_first) (gate-no_first Not tt);
        sources_read = λ y is. elim (cases_eq y n) [
          | inl here ↦ let both : Some Not ≡ Some Source = sym (changed-same kinds n (Some Not)) ∙ ap made (sym here) ∙ is in cc
          | inr ne ↦ changed-other ins n (ins n ++ p ∷ []) y ne ∙ s.sources_read y (sym (changed-other kinds n (Some Not) y ne) ∙ is)
        ];
      }

  abbrev rank : ℕ → ℕ
  rank m = changed ww.rank n (suc (ww.rank d)) m

  rank-live : (m : ℕ) → kinds m ≢ None → rank m ≡ ww.rank m
  rank-live m live = changed-other ww.rank n (suc (ww.rank d)) m (live-other m live)

  ranked-now : (g m q : ℕ) → g ≢ 0 → has q (pushed ins n p g) ≡ true → has q (pushed outs d p m) ≡ true → rank m < rank g
  ranked-now g m q ne h k =
      let out-in = fresh-out ins _ p rv.inputs fresh in
      let out-out = fresh-out outs _ p rv.fanouts fresh in
      elim (pushed-had ins n p g q h) [
        | inl old ↦ elim (pushed-had outs d p m q k) [
          | inl old' ↦ rw (rank-live m (ww.shape.drivers_live m q old'), rank-live g (ww.shape.gates_live g q old)) (ww.ranked g m q ne old old')
          | inr new' ↦ let wrong : has p (ins g) ≡ true = rw new'.1 at old in absurd (false≢true (sym (out-in g) ∙ wrong))
        ]
        | inr new ↦ elim (pushed-had outs d p m q k) [
          | inl old' ↦ let wrong : has p (outs m) ≡ true = rw new.1 at old' in absurd (false≢true (sym (out-out m) ∙ wrong))
          | inr new' ↦ rw (new.0, new'.0, rank-live d driver, changed-same ww.rank n (suc (ww.rank d))) (omega arith)
        ]
      ]

  pub wired-made : IsWired (wiring w)
  wired-made =
      let x : Wiring = record { kind = made; rings = linked p n d (rings_of v.pool) } in
      let wired : IsWired x = record { shape = shaped-now; rank = rank; ranked = ranked-now } in
      subst (λ (y : Wiring). IsWired y) (sym now) wired

  pub back-made : (pin : PinNo) → pin.0 ≡ p → length w.kinds ≡ length v.kinds → (es : List Undo) → LeadOn v w es (Made n pin ∷ es)
  back-made pin is len es =
      let x : Wiring = record { kind = made; rings = linked p n d (rings_of v.pool) } in
      let kind-back : changed made n None ≡ kinds = ap (λ (o : Option Kind). changed made n o) (sym free) ∙ changed-back kinds n (Some Not) in
      let can : CanTakeBack x (Made n pin) = rw is (rw (changed-same kinds n (Some Not)) (some-not-none Not), ((n, pushed-has ins n p), (d, pushed-has outs d p))) in
      let rings-back : dropped pin.0 (linked p n d (rings_of v.pool)) ≡ rings_of v.pool =
      ap (λ (q : ℕ). dropped q (linked p n d (rings_of v.pool))) is ∙ dropped-linked (rings_of v.pool) p n d rv fresh in
      lead-by v w (Made n pin) es x now can
      (λ i. record { kind = kind-back i; rings = rings-back i })
      (λ within. (tt, within-length (length v.kinds) (length w.kinds) es len within))

pub record Makes (v w : Circuit) (n d : ℕ) (pin : PinNo) : Type 0 where
  pub wired : IsWired (wiring w)
  pub net : MakesGate (net_of v) (net_of w) Not (d ∷ []) n
  pub undos : (es : List Undo) → LeadOn v w es (Made n pin ∷ es)

pub makes : (v w : Circuit) (n d : ℕ) (pin : PinNo) → rings_of w.pool ≡ linked pin.0 n d (rings_of v.pool) → AreRings (rings_of v.pool) → AreRings (rings_of w.pool) → IsWired (wiring v) → kind_at v.kinds n ≡ None → kinds_live v.kinds n → wiring w ≡ (let x : Wiring = record { kind = changed (λ m. kind_at v.kinds m) n (Some Not); rings = linked pin.0 n d (rings_of v.pool) } in x) → (let t : ℕ → Bool = (rings_of v.pool).taken in t pin.0 ≡ false) → IsLive (net_of v) d → length w.kinds ≡ length v.kinds → Makes v w n d pin
makes v w n d pin e rv rw' ww free least now fresh driver len = record {
  wired = wired-made v w pin.0 n d e rv rw' ww free now fresh (live-in v d driver);
  net = net-made v w pin.0 n d e rv rw' ww free now fresh (live-in v d driver) least;
  undos = back-made v w pin.0 n d e rv rw' ww free now fresh (live-in v d driver) pin refl len;
}
