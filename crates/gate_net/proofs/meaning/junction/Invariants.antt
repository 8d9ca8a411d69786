use Rattle.std.proofs.Common.{drop, ◌≡◌}
use Rattle.gate_net.specs.Meaning.{junction}
use Rattle.gate_net.proofs.meaning.junction.Given as goal

abbrev pub invariant-loop-read : goal.invariant-loop-read
invariant-loop-read l = junction l.c l.reads ≡ junction l.c (drop l.read-index l.reads)
