use Rattle.std.proofs.Common.{◌≡◌, ◌++◌, ◌||◌, ℕ, map}
use Rattle.pin_pool.specs.Ring.{has}
use Rattle.pin_pool.specs.Inner.Marks.{is_marked}
use Rattle.pin_pool.proofs.copying.mark_ring.Given as goal

abbrev pub invariant-loop-pin : goal.invariant-loop-pin
invariant-loop-pin l = record {
  all : l.initial.pin-iterator ≡ map (λ p. p.0) l.yielded ++ l.pin-iterator;
  marked : (q : ℕ) → is_marked l.marks q ≡ (has q (map (λ p. p.0) l.yielded) || is_marked l.initial.marks q);
}
