use Rattle.std.proofs.Common.{length, map, ◌++◌, ◌≡◌}
use Rattle.implications.proofs.blocked_pin.first_blocking.Given as goal

abbrev pub invariant-loop-driver : goal.invariant-loop-driver
invariant-loop-driver l = record {
  all : l.fn.drivers ≡ map (λ d. d.0) l.yielded ++ l.driver-iterator;
  count : l.position ≡ length l.yielded;
}
