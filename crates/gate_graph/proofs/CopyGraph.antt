-- A graph with the kinds and the lists of another, in which only linked pins are taken.
use Rattle.std.proofs.Common.{◌≡◌, ℕ, ◌+◌, true, List, length, ap, arith}
use Rattle.std.specs.FinSet as finset
use Rattle.pin_pool.specs.Pins.{list_of}
use Rattle.pin_pool.specs.Rings.{rings_of, AreRings, IsLinked}
use Rattle.gate_graph.specs.Circuit.{Circuit, net_of, pins_taken, free_pins}
use Rattle.gate_graph.specs.Inner.Circuit.{IsGraph}
use Rattle.gate_graph.specs.Holds.{pins_held}
use Rattle.gate_graph.specs.Readers.{SameReaders}
use Rattle.gate_graph.proofs.HeldPins.{held-are, taken-linked}
use Rattle.pin_pool.proofs.Public.{linked-same}
use Rattle.gate_graph.proofs.Kept.{graph-kept, net-kept, readers-kept}

module _ (v w : Circuit) (kinds : w.kinds ≡ v.kinds) (inputs : w.pool.inputs ≡ v.pool.inputs) (fanouts : w.pool.fanouts ≡ v.pool.fanouts) where
  same-inputs : (rings_of w.pool).inputs ≡ (rings_of v.pool).inputs
  same-inputs = ap {B = ℕ → List ℕ} (λ (lists : List (List ℕ)) (n : ℕ). list_of lists n) inputs

  same-fanouts : (rings_of w.pool).fanouts ≡ (rings_of v.pool).fanouts
  same-fanouts = ap {B = ℕ → List ℕ} (λ (lists : List (List ℕ)) (n : ℕ). list_of lists n) fanouts

  pub copied-net : net_of w ≡ net_of v
  copied-net = net-kept w v kinds same-inputs same-fanouts

  pub copied-readers : SameReaders v w
  copied-readers = readers-kept w v kinds same-inputs same-fanouts

  pub copied-graph : IsGraph v → IsGraph w
  copied-graph g = graph-kept w v kinds same-inputs same-fanouts (ap length inputs) g

  module _ (rv : AreRings (rings_of v.pool)) (rv' : AreRings (rings_of w.pool)) (g : IsGraph v) (linked : (q : ℕ) → finset.contains w.pool.taken q ≡ true → IsLinked (rings_of w.pool) q) where
    pub copied-held : pins_held w ≡ 0
    copied-held = omega (arith, held-are w rv' (copied-graph g), taken-linked w.pool rv' linked)

    pub copied-taken : pins_taken w + pins_held v ≡ pins_taken v
    copied-taken = omega (arith, copied-held, held-are w rv' (copied-graph g), held-are v rv g, linked-same v.pool w.pool (ap length inputs) same-inputs)

    pub copied-pins : pins_taken w + free_pins w ≡ pins_taken v + free_pins v → free_pins w ≡ free_pins v + pins_held v
    copied-pins all = omega (arith, copied-taken, all)
