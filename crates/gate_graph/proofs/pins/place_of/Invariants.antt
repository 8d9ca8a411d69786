use Rattle.std.proofs.Common.{◌≡◌, ◌++◌, map, length, false}
use Rattle.pin_pool.specs.Ring.{has}
use Rattle.pin_pool.specs.Pins.{list_of}
use Rattle.gate_graph.proofs.pins.place_of.Given as goal

abbrev pub invariant-loop-other : goal.invariant-loop-other
invariant-loop-other l = record {
  all : list_of l.pool.inputs l.gate ≡ map (λ p. p.0) l.yielded ++ l.other-iterator;
  count : l.at ≡ length l.yielded;
  none : has l.pin.0 (map (λ p. p.0) l.yielded) ≡ false;
}
