use Rattle.std.proofs.Common.{drop, ◌≡◌}
use Rattle.gate_net.specs.Meaning.{parity}
use Rattle.gate_net.proofs.meaning.parity.Given as goal

abbrev pub invariant-loop-read : goal.invariant-loop-read
invariant-loop-read l = parity l.inverts l.reads ≡ parity l.value (drop l.read-index l.reads)
