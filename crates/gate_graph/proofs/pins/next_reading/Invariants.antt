use Rattle.std.proofs.Common.{◌≡◌, ℕ, length, true}
use Rattle.pin_pool.specs.Ring.{has}
use Rattle.pin_pool.specs.Rings.{rings_of, IsLinked}
use Rattle.pin_pool.specs.Pins.{list_of}
use Rattle.gate_graph.specs.Circuit.{without_observed}
use Rattle.gate_graph.proofs.pins.next_reading.Given as goal

abbrev pub invariant-loop-pin : goal.invariant-loop-pin
invariant-loop-pin l = record {
  same : without_observed (list_of l.pool.inputs 0) l.pins ≡ without_observed (list_of l.pool.inputs 0) l.fn.pins;
  linked : (p : ℕ) → has p l.pins ≡ true → IsLinked (rings_of l.pool) p;
  kept : (p : ℕ) → has p l.pins ≡ true → has p l.fn.pins ≡ true;
}

abbrev pub decreases-loop-pin : goal.decreases-loop-pin
decreases-loop-pin l = length l.pins
