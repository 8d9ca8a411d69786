use Rattle.std.proofs.Common.{◌≡◌, ◌++◌, length, map}
use Rattle.gate_net.specs.Meaning.{parity_back}
use Rattle.local_evaluation.specs.Pins.{with_stuck}
use Rattle.local_evaluation.proofs.Parities.{BackTo}
use Rattle.local_evaluation.proofs.pin_scans.parity_back.Given as goal

abbrev pub invariant-loop-driver : goal.invariant-loop-driver
invariant-loop-driver g l = record {
  all : l.fn.drivers ≡ map (λ d. d.0) l.yielded ++ l.driver-iterator;
  count : l.q ≡ length l.yielded;
  back : BackTo l.there l.parity l.q l.at (with_stuck l.stuck (map (g.K.Known.knows l.known) l.fn.drivers)) (parity_back l.inverts (with_stuck l.stuck (map (g.K.Known.knows l.known) l.fn.drivers)) l.at);
}
