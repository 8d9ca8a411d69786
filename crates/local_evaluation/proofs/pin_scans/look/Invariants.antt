use Rattle.std.proofs.Common.{◌≡◌, ◌++◌, map, length}
use Rattle.local_evaluation.specs.Pins.{with_stuck}
use Rattle.local_evaluation.proofs.Looks.{LooksTo}
use Rattle.local_evaluation.proofs.pin_scans.look.Given as goal

abbrev pub invariant-loop-driver : goal.invariant-loop-driver
invariant-loop-driver g l = record {
  all : l.fn.drivers ≡ map (λ d. d.0) l.yielded ++ l.driver-iterator;
  count : l.q ≡ length l.yielded;
  looks : LooksTo l.any l.rest l.at l.q l.value (with_stuck l.stuck (map (g.K.Known.knows l.known) l.fn.drivers));
}
