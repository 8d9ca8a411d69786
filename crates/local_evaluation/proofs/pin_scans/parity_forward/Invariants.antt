use Rattle.std.proofs.Common.{◌≡◌, ◌++◌, drop, length, map}
use Rattle.gate_net.specs.Meaning.{parity_follows}
use Rattle.local_evaluation.specs.Pins.{with_stuck}
use Rattle.local_evaluation.proofs.Parities.{parity_from}
use Rattle.local_evaluation.proofs.pin_scans.parity_forward.Given as goal

abbrev pub invariant-loop-driver : goal.invariant-loop-driver
invariant-loop-driver g l = record {
  all : l.fn.drivers ≡ map (λ d. d.0) l.yielded ++ l.driver-iterator;
  count : l.q ≡ length l.yielded;
  parity : parity_from l.parity (drop l.q (with_stuck l.stuck (map (g.K.Known.knows l.known) l.fn.drivers))) ≡ parity_follows l.inverts (with_stuck l.stuck (map (g.K.Known.knows l.known) l.fn.drivers));
}
