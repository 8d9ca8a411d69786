-- A node is observed once more.
use Rattle.std.proofs.Common.{◌≡◌, ◌≢◌, ℕ, Bool, true, false, List, [], ◌∷◌, ◌++◌, map, subst, Option, Some, None, refl, sym, ap, ◌∙◌, arith, inl, inr}
use Rattle.std.proofs.lemmas.Bool.{cases_eq, ne_eqb, false≢true}
use Rattle.std.proofs.lemmas.List.{map-append}
use Rattle.gate_net.specs.declared.Kind.{Kind}
use Rattle.gate_net.specs.declared.Kind.TheVariants.{Source, Zero}
use Rattle.gate_net.specs.Net.{Net}
use Rattle.pin_pool.proofs.Public.{changed-other, changed-same}
use Rattle.pin_pool.specs.Ring.{has}
use Rattle.pin_pool.specs.Pins.{list_of}
use Rattle.pin_pool.specs.Rings.{Rings, AreRings, rings_of, linked}
use Rattle.gate_graph.proofs.LeadOns.{one-parity}
use Rattle.gate_graph.specs.Wirings.{Wiring, IsWired, kind_at}
use Rattle.gate_graph.specs.Circuit.{Circuit, wiring, net_of, fanouts_of, node_with, gate_pins, home}
use Rattle.gate_graph.proofs.NetOf.{home-here, map-same, net-ext, node_at-net, nodes-trimmed, observed-net}
use Rattle.gate_graph.specs.Readers.{SameReaders}
use Rattle.gate_graph.proofs.Extended.{fans-observed}
use Rattle.gate_graph.proofs.Appended.{pushed, pushed-has, pushed-keeps, pushed-had, fresh-out, shaped-linked}

pub record Observes (v w : Circuit) (d : ℕ) : Type 0 where
  pub wired : IsWired (wiring w)
  pub net : net_of w ≡ record (net_of v) { observed = (net_of v).observed ++ d ∷ [] }

pub observes : (v w : Circuit) (p d : ℕ) → w.kinds ≡ v.kinds → rings_of w.pool ≡ linked p 0 d (rings_of v.pool) → AreRings (rings_of v.pool) → AreRings (rings_of w.pool) → IsWired (wiring v) → kind_at v.kinds d ≢ None → (let t : ℕ → Bool = (rings_of v.pool).taken in t p ≡ false) → Observes v w d
observes v w p d same e rv rw' ww driver free =
    let s = ww.shape in
    let ins : ℕ → List ℕ = λ n. list_of v.pool.inputs n in
    let outs : ℕ → List ℕ = λ n. list_of v.pool.fanouts n in
    let input-now : (n : ℕ) → list_of w.pool.inputs n ≡ pushed ins 0 p n = λ n. ap (λ (r : Rings). r.inputs n) e in
    let fanout-now : (n : ℕ) → list_of w.pool.fanouts n ≡ pushed outs d p n = λ n. ap (λ (r : Rings). r.fanouts n) e in
    let old : (n q : ℕ) → has q (ins n) ≡ true → home w.pool.fanouts q ≡ home v.pool.fanouts q = λ n q h. (
    let by = s.driven n q h in
    home-here w.pool.fanouts _ q by.0 rw'.fanouts (ap (has q) (fanout-now by.0) ∙ pushed-keeps outs d p by.0 q by.1) ∙ sym (home-here v.pool.fanouts _ q by.0 rv.fanouts by.1)) in
    let new : home w.pool.fanouts p ≡ d = home-here w.pool.fanouts _ p d rw'.fanouts (ap (has p) (fanout-now d) ∙ pushed-has outs d p) in
    let gate-homes : (n : ℕ) → map (home w.pool.fanouts) (gate_pins w.pool n) ≡ map (home v.pool.fanouts) (gate_pins v.pool n) = λ n. elim (cases_eq n 0) [
      | inl is ↦ rw is refl
      | inr ne ↦ rw (ne_eqb n 0 ne) (ap (map (home w.pool.fanouts)) (input-now n ∙ changed-other ins 0 (ins 0 ++ p ∷ []) n ne) ∙ map-same (home w.pool.fanouts) (home v.pool.fanouts) (ins n) (old n))
    ] in
    let x : Wiring = record { kind = λ n. kind_at v.kinds n; rings = linked p 0 d (rings_of v.pool) } in
    let now : wiring w ≡ x = rw (same, e) refl in
    let no-zero : kind_at v.kinds 0 ≢ None = λ none. (let both : Some Zero ≡ None = sym s.zero_is ∙ none in cc) in
    let no-source : kind_at v.kinds 0 ≢ Some Source = λ is. (let both : Some Zero ≡ Some Source = sym s.zero_is ∙ is in cc) in
    let wired : IsWired x = record {
      shape = shaped-linked (λ n. kind_at v.kinds n) (rings_of v.pool) p 0 d s no-zero (λ k i is inverts. one-parity (kind_at v.kinds 0) Zero k i s.zero_is refl is inverts) no-source (λ is. absurd (omega arith)) driver;
      rank = ww.rank;
      ranked = λ g m q ne h k.
          let was : has q (ins g) ≡ true = ap (has q) (sym (changed-other ins 0 (ins 0 ++ p ∷ []) g ne)) ∙ h in
          elim (pushed-had outs d p m q k) [
            | inl before ↦ ww.ranked g m q ne was before
            | inr this ↦ absurd (false≢true (sym (fresh-out ins _ p rv.inputs free g) ∙ ap (λ (r : ℕ). has r (ins g)) (sym this.1) ∙ was))
          ];
    } in
    let after : Net = record (net_of v) { observed = (net_of v).observed ++ d ∷ [] } in
    record {
      wired = subst (λ (y : Wiring). IsWired y) (sym now) wired;
      net = net-ext w after (nodes-trimmed v)
          (λ n. ap (λ (ks : List (Option Kind)). node_with (kind_at ks n) (map (home w.pool.fanouts) (gate_pins w.pool n))) same ∙ ap (node_with (kind_at v.kinds n)) (gate-homes n) ∙ sym (node_at-net v n))
          (ap (map (home w.pool.fanouts)) (input-now 0 ∙ changed-same ins 0 (ins 0 ++ p ∷ [])) ∙ map-append (home w.pool.fanouts) (ins 0) (p ∷ [])
          ∙ ap (λ (l : List ℕ). l ++ home w.pool.fanouts p ∷ []) (map-same (home w.pool.fanouts) (home v.pool.fanouts) (ins 0) (old 0) ∙ sym (observed-net v))
          ∙ ap (λ (y : ℕ). (net_of v).observed ++ y ∷ []) new);
    }

pub observed-readers : (v w : Circuit) (p d : ℕ) → rings_of w.pool ≡ linked p 0 d (rings_of v.pool) → AreRings (rings_of v.pool) → AreRings (rings_of w.pool) → (let t : ℕ → Bool = (rings_of v.pool).taken in t p ≡ false) → SameReaders v w
unfolding fanouts_of
observed-readers v w p d e rv rw' free n = fans-observed v.pool w.pool p 0 d e rv rw' free refl n
