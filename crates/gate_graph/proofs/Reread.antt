-- All readers of a node move to another.
use Rattle.std.proofs.Common.{◌≡◌, ◌≢◌, ℕ, ◌-◌, ◌≤◌, true, List, [], ◌∷◌, ◌++◌, length, map, take, drop, subst, Option, Some, None, refl, sym, ap, ◌∙◌, arith, inl, inr, ◌⊎◌, length-append}
use mathlib.Core.Path.{fun_ext}
use Rattle.std.proofs.lemmas.Bool.{cases_eq, ne_eqb, eq-eqb, or_cases}
use Rattle.std.proofs.lemmas.Bool.Decides.{nat_tests}
use Rattle.std.proofs.lemmas.List.{take_at, drop_at}
use Rattle.gate_net.proofs.Public.{moves_keep_acyclic, node_at-moved}
use Rattle.gate_net.specs.declared.Kind.{Kind}
use Rattle.gate_net.specs.Net.{Node, IsAcyclic, IsLive, trimmed, before_dead}
use Rattle.gate_net.specs.Paths.{Reaches}
use Rattle.gate_net.specs.Edits.{redirected, node_redirected, with_readers_moved}
use Rattle.pin_pool.proofs.Public.{changed-other, changed-same, has-append, same-rings}
use Rattle.pin_pool.specs.Ring.{has}
use Rattle.pin_pool.specs.Pins.{list_of}
use Rattle.pin_pool.specs.declared.names.Splice.{Splice}
use Rattle.gate_graph.specs.declared.undo_list.Undo.{Undo}
use Rattle.gate_graph.specs.declared.undo_list.Undo.TheVariants.{Moved}
use Rattle.pin_pool.specs.Rings.{Rings, AreRings, rings_of, moved, moved_back, changed}
use Rattle.gate_graph.specs.Wirings.{Wiring, IsShaped, IsWired, kind_at}
use Rattle.gate_graph.specs.Undoing.{CanTakeBack, LeadOn}
use Rattle.gate_graph.specs.Circuit.{Circuit, wiring, net_of, node_in, node_with, gate_pins, home}
use Rattle.gate_graph.proofs.NetOf.{home-here, net-ext, node_at-net, nodes-trimmed, observed-net}
use Rattle.gate_graph.proofs.LeadOns.{lead-rings, live-in}
use Rattle.gate_graph.proofs.Ranked.{acyclic-net, wired-by}

module _ (f : ℕ → List ℕ) (from to : ℕ) (apart : from ≢ to) where
  abbrev pub after : ℕ → List ℕ
  after n = changed (changed f from []) to (f to ++ f from) n

  pub after-to : after to ≡ f to ++ f from
  after-to = changed-same (changed f from []) to (f to ++ f from)

  pub after-from : after from ≡ []
  after-from = changed-other (changed f from []) to (f to ++ f from) from apart ∙ changed-same f from []

  pub after-other : (n : ℕ) → n ≢ from → n ≢ to → after n ≡ f n
  after-other n a b = changed-other (changed f from []) to (f to ++ f from) n b ∙ changed-other f from [] n a

  pub after-keeps : (n q : ℕ) → has q (f n) ≡ true → has q (after (redirected from to n)) ≡ true
  after-keeps n q h = elim (cases_eq n from) [
    | inl is ↦ rw (is, eq-eqb from from refl, after-to) (has-append (f to) (f from) q ∙ (let h' : has q (f from) ≡ true = rw is at h in grind (arith, nat_tests)))
    | inr ne ↦ rw (ne_eqb n from ne) (elim (cases_eq n to) [
      | inl is ↦ rw (is, after-to) (has-append (f to) (f from) q ∙ (let h' : has q (f to) ≡ true = rw is at h in grind (arith, nat_tests)))
      | inr ne' ↦ rw (after-other n ne ne') h
    ])
  ]

  pub after-had : (n q : ℕ) → has q (after n) ≡ true → (has q (f n) ≡ true) ⊎ ((n ≡ to) × (has q (f from) ≡ true))
  after-had n q h = elim (cases_eq n to) [
    | inl is ↦
        let now : has q (f to ++ f from) ≡ true = rw (is, after-to) at h in
        elim (or_cases (has q (f to)) (has q (f from)) (sym (has-append (f to) (f from) q) ∙ now)) [ inl old ↦ inl (rw is old) | inr new ↦ inr (is, new) ]
    | inr ne ↦ elim (cases_eq n from) [
      | inl is ↦ let none : has q [] ≡ true = rw (is, after-from) at h in cc
      | inr ne' ↦ inl (rw (after-other n ne' ne) at h)
    ]
  ]

  pub back-again : (count : ℕ) → count ≡ length (f from) → changed (changed after to (take (length (after to) - count) (after to))) from (drop (length (after to) - count) (after to)) ≡ f
  back-again count e =
      let n = length (after to) - count in
      let size : length (f to) ≡ n = omega (arith, ap length after-to ∙ length-append (f to) (f from)) in
      let front : take n (after to) ≡ f to = ap (take n) after-to ∙ take_at (f to) (f from) n size in
      let back : drop n (after to) ≡ f from = ap (drop n) after-to ∙ drop_at (f to) (f from) n size in
      fun_ext (λ m. elim (cases_eq m from) [
        | inl is ↦ rw is (changed-same (changed after to (take n (after to))) from (drop n (after to)) ∙ back)
        | inr ne ↦ changed-other (changed after to (take n (after to))) from (drop n (after to)) m ne ∙ elim (cases_eq m to) [
          | inl is ↦ rw is (changed-same after to (take n (after to)) ∙ front)
          | inr ne' ↦ changed-other after to (take n (after to)) m ne' ∙ after-other m ne ne'
        ]
      ])

before-map : (g : Option Node → Option Node) (x : Option Node) (ys : List (Option Node)) → g None ≡ None → ((n : Node) → (m : Node) × (g (Some n) ≡ Some m)) → before_dead (g x) (map g ys) ≡ map g (before_dead x ys)
before-map g None [] none some = rw none refl
before-map g None (y ∷ ys) none some = rw none refl
before-map g (Some n) ys none some = let is = some n in rw is.1 refl

trimmed-map : (g : Option Node → Option Node) (xs : List (Option Node)) → g None ≡ None → ((n : Node) → (m : Node) × (g (Some n) ≡ Some m)) → trimmed (map g xs) ≡ map g (trimmed xs)
trimmed-map g [] none some = refl
trimmed-map g (x ∷ xs) none some = ap (before_dead (g x)) (trimmed-map g xs none some) ∙ before-map g x (trimmed xs) none some

map-two : (f g : ℕ → ℕ) (h : ℕ → ℕ) (xs : List ℕ) → ((q : ℕ) → has q xs ≡ true → f q ≡ g (h q)) → map f xs ≡ map g (map h xs)
map-two f g h [] e = refl
map-two f g h (x ∷ xs) e =
    let here : f x ≡ g (h x) = e x (grind (arith, nat_tests)) in
    rw (here, map-two f g h xs (λ q k. e q (grind (arith, nat_tests)))) refl

redirected-node : (from to : ℕ) (o : Option Kind) (ds es : List ℕ) → es ≡ map (redirected from to) ds → node_with o es ≡ node_redirected from to (node_with o ds)
redirected-node from to None ds es e = refl
redirected-node from to (Some k) ds es e = rw e refl

module _ (v w : Circuit) (from to : ℕ) (apart : from ≢ to) (same : w.kinds ≡ v.kinds) (e : rings_of w.pool ≡ moved from to (rings_of v.pool)) (rv : AreRings (rings_of v.pool)) (rw' : AreRings (rings_of w.pool)) (ww : IsWired (wiring v)) where
  abbrev outs : ℕ → List ℕ
  outs n = list_of v.pool.fanouts n

  input-now : (n : ℕ) → list_of w.pool.inputs n ≡ list_of v.pool.inputs n
  input-now n = ap (λ (r : Rings). r.inputs n) e

  fanout-now : (n : ℕ) → list_of w.pool.fanouts n ≡ after outs from to apart n
  fanout-now n = ap (λ (r : Rings). r.fanouts n) e

  home-now : (n q : ℕ) → has q (list_of v.pool.inputs n) ≡ true → home w.pool.fanouts q ≡ redirected from to (home v.pool.fanouts q)
  home-now n q h =
      let by = ww.shape.driven n q h in
      home-here w.pool.fanouts _ q (redirected from to by.0) rw'.fanouts (ap (has q) (fanout-now (redirected from to by.0)) ∙ after-keeps outs from to apart by.0 q by.1)
      ∙ ap (redirected from to) (sym (home-here v.pool.fanouts _ q by.0 rv.fanouts by.1))

  homes-now : (n : ℕ) → map (home w.pool.fanouts) (list_of w.pool.inputs n) ≡ map (redirected from to) (map (home v.pool.fanouts) (list_of v.pool.inputs n))
  homes-now n = ap (map (home w.pool.fanouts)) (input-now n) ∙ map-two (home w.pool.fanouts) (redirected from to) (home v.pool.fanouts) (list_of v.pool.inputs n) (home-now n)

  gate-homes : (n : ℕ) → map (home w.pool.fanouts) (gate_pins w.pool n) ≡ map (redirected from to) (map (home v.pool.fanouts) (gate_pins v.pool n))
  gate-homes n = elim (cases_eq n 0) [
    | inl is ↦ rw is refl
    | inr ne ↦ rw (ne_eqb n 0 ne) (homes-now n)
  ]

  node-now : (n : ℕ) → node_in w n ≡ node_redirected from to (node_in v n)
  node-now n =
      ap (λ (o : Option Kind). node_with o (map (home w.pool.fanouts) (gate_pins w.pool n))) (ap (λ (ks : List (Option Kind)). kind_at ks n) same)
      ∙ redirected-node from to (kind_at v.kinds n) (map (home v.pool.fanouts) (gate_pins v.pool n)) _ (gate-homes n)

  pub net-moved : net_of w ≡ with_readers_moved (net_of v) from to
  net-moved =
      net-ext w (with_readers_moved (net_of v) from to)
      (trimmed-map (node_redirected from to) (net_of v).nodes refl (λ n. (record n { drivers = map (redirected from to) n.drivers }, refl)) ∙ ap (map (node_redirected from to)) (nodes-trimmed v))
      (λ n. node-now n ∙ ap (node_redirected from to) (sym (node_at-net v n)) ∙ sym (node_at-moved (net_of v) from to n))
      (homes-now 0 ∙ ap (map (redirected from to)) (sym (observed-net v)))

  shaped-now : kind_at v.kinds to ≢ None → IsShaped (record { kind = λ n. kind_at v.kinds n; rings = moved from to (rings_of v.pool) })
  shaped-now live =
      let s = ww.shape in record {
        zero_is = s.zero_is;
        one_is = s.one_is;
        one_reads = s.one_reads;
        gates_live = s.gates_live;
        drivers_live = λ n q h. elim (after-had outs from to apart n q h) [ inl old ↦ s.drivers_live n q old | inr new ↦ rw new.0 live ];
        driven = λ n q h. (let by = s.driven n q h in (redirected from to by.0, after-keeps outs from to apart by.0 q by.1));
        read = λ n q h. elim (after-had outs from to apart n q h) [ inl old ↦ s.read n q old | inr new ↦ s.read from q new.1 ];
        parities = s.parities;
        sources = s.sources;
        first = s.first;
        sources_read = s.sources_read;
      }

  pub wired-moved : kind_at v.kinds to ≢ None → (Reaches (net_of v) from to → ⊥) → IsWired (wiring w)
  wired-moved live path =
      let x : Wiring = record { kind = λ n. kind_at v.kinds n; rings = moved from to (rings_of v.pool) } in
      let now : wiring w ≡ x = rw (same, e) refl in
      let shape : IsShaped (wiring w) = subst (λ (y : Wiring). IsShaped y) (sym now) (shaped-now live) in
      let acyclic : IsAcyclic (net_of w) = rw net-moved (moves_keep_acyclic (net_of v) from to (acyclic-net v rv ww) (λ is. apart (sym is)) path) in
      wired-by w rw' shape acyclic

  pub back-moved : (splice : Splice) → splice.from ≡ from → splice.to ≡ to → splice.count ≡ length (outs from) → kind_at v.kinds from ≢ None → kind_at v.kinds to ≢ None → (es : List Undo) → LeadOn v w es (Moved splice ∷ es)
  back-moved splice isf ist isc lf lt es =
      let again : moved_back splice (moved from to (rings_of v.pool)) ≡ rings_of v.pool =
      rw (isf, ist) (same-rings _ _ refl (back-again outs from to apart splice.count isc) refl) in
      let x : Wiring = record { kind = λ n. kind_at v.kinds n; rings = moved from to (rings_of v.pool) } in
      let many : splice.count ≤ length (after outs from to apart to) = omega (arith, ap length (after-to outs from to apart) ∙ length-append (outs to) (outs from)) in
      let can : CanTakeBack x (Moved splice) = rw (isf, ist) (lf, (lt, (apart, (after-from outs from to apart, many)))) in
      lead-rings v w (Moved splice) es (moved from to (rings_of v.pool)) same e
      (can, ap (λ (r : Rings). let y : Wiring = record { kind = λ (n : ℕ). kind_at v.kinds n; rings = r } in y) again) tt

pub record Rereads (v w : Circuit) (from to : ℕ) (splice : Splice) : Type 0 where
  pub wired : IsWired (wiring w)
  pub net : net_of w ≡ with_readers_moved (net_of v) from to
  pub undos : (es : List Undo) → LeadOn v w es (Moved splice ∷ es)

pub rereads : (v w : Circuit) (from to : ℕ) (splice : Splice) → w.kinds ≡ v.kinds → rings_of w.pool ≡ moved from to (rings_of v.pool) → AreRings (rings_of v.pool) → AreRings (rings_of w.pool) → IsWired (wiring v) → IsLive (net_of v) from → IsLive (net_of v) to → to ≢ from → (Reaches (net_of v) from to → ⊥) → ((splice.from ≡ from) × (splice.to ≡ to) × (splice.count ≡ length (list_of v.pool.fanouts from))) → Rereads v w from to splice
rereads v w from to splice same e rv rw' ww lf lt ne path is =
    let apart : from ≢ to = λ s. ne (sym s) in
    record {
      wired = wired-moved v w from to apart same e rv rw' ww (live-in v to lt) path;
      net = net-moved v w from to apart same e rv rw' ww;
      undos = back-moved v w from to apart same e rv rw' ww splice is.0 is.1 is.2 (live-in v from lf) (live-in v to lt);
    }
