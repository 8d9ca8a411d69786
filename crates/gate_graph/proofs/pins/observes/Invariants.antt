use Rattle.std.proofs.Common.{◌≡◌, ◌++◌, ℕ, map, true, false}
use Rattle.pin_pool.specs.Ring.{has}
use Rattle.pin_pool.specs.Pins.{list_of}
use Rattle.gate_graph.proofs.pins.observes.Given as goal

abbrev pub invariant-loop-pin : goal.invariant-loop-pin
invariant-loop-pin l = record {
  all : list_of l.pool.fanouts l.node ≡ map (λ p. p.0) l.yielded ++ l.pin-iterator;
  none : (p : ℕ) → has p (map (λ q. q.0) l.yielded) ≡ true → has p (list_of l.pool.inputs 0) ≡ false;
}
