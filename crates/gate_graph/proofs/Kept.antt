-- A graph stays one where only pins outside the rings are freed.
use Rattle.std.proofs.Common.{◌≡◌, ℕ, List, length, sym, ap, subst, arith, Option}
use Rattle.gate_net.specs.declared.Kind.{Kind}
use Rattle.pin_pool.specs.Rings.{rings_of}
use Rattle.gate_graph.specs.Wirings.{Wiring, IsShaped, IsWired, kind_at}
use Rattle.gate_graph.specs.Circuit.{Circuit, wiring, net_of, fanouts_of}
use Rattle.gate_graph.specs.Inner.Circuit.{IsGraph}
use Rattle.gate_graph.specs.Readers.{SameReaders}
use Rattle.gate_graph.proofs.SameWired.{same-seen}

-- what is said of a wiring says nothing of the pins that are taken
pub wired-kept : (w : Wiring) (x : Wiring) → w.kind ≡ x.kind → w.rings.inputs ≡ x.rings.inputs → w.rings.fanouts ≡ x.rings.fanouts → IsWired x → IsWired w
wired-kept w x a b c i =
    let y : Wiring = record { kind = x.kind; rings = record { inputs = x.rings.inputs; fanouts = x.rings.fanouts; taken = w.rings.taken } } in
    let s = i.shape in
    let shape : IsShaped y = record {
      zero_is = s.zero_is;
      one_is = s.one_is;
      one_reads = s.one_reads;
      gates_live = s.gates_live;
      drivers_live = s.drivers_live;
      driven = s.driven;
      read = s.read;
      parities = s.parities;
      sources = s.sources;
      first = s.first;
      sources_read = s.sources_read;
    } in
    let wired : IsWired y = record { shape = shape; rank = i.rank; ranked = i.ranked } in
    let same : w ≡ y = λ j. record { kind = a j; rings = record { inputs = b j; fanouts = c j; taken = w.rings.taken } } in
    subst (λ (z : Wiring). IsWired z) (sym same) wired

module _ (u v : Circuit) (a : u.kinds ≡ v.kinds) (b : (rings_of u.pool).inputs ≡ (rings_of v.pool).inputs) (c : (rings_of u.pool).fanouts ≡ (rings_of v.pool).fanouts) where
  pub graph-kept : length u.pool.inputs ≡ length v.pool.inputs → IsGraph v → IsGraph u
  graph-kept d g = record {
    wired = wired-kept (wiring u) (wiring v) (ap {B = ℕ → Option Kind} (λ (ks : List (Option Kind)) (n : ℕ). kind_at ks n) a) b c g.wired;
    room = omega (arith, g.room, ap length a, d);
    few = omega (arith, g.few, ap length a);
  }

  seen : (net_of u ≡ net_of v) × ((n : ℕ) → fanouts_of u n ≡ fanouts_of v n)
  seen = same-seen u v (λ n. ap (λ (ks : List (Option Kind)). kind_at ks n) a) (λ n. ap (λ (f : ℕ → List ℕ). f n) b) (λ n. ap (λ (f : ℕ → List ℕ). f n) c)

  pub net-kept : net_of u ≡ net_of v
  net-kept = seen.0

  pub readers-kept : SameReaders v u
  readers-kept = seen.1
