use Rattle.std.proofs.Common.{length, ◌≡◌}
use Rattle.gate_graph.specs.Circuit.{net_of}
use Rattle.implications.proofs.basis.fit_all.Given as goal
use Rattle.implications.specs.Bases.{FitsBelow}

abbrev pub invariant-loop-number : goal.invariant-loop-number
invariant-loop-number l = record {
  fits : FitsBelow (net_of l.graph) l.number l.facts l.pinless.items;
  size : length l.facts ≡ length l.initial.facts;
}
