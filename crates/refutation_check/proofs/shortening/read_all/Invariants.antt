use Rattle.std.proofs.Common.{◌≡◌}
use Rattle.gate_graph.specs.Circuit.{net_of}
use Rattle.refutation_check.proofs.shortening.read_all.Given as goal

abbrev pub invariant-loop-item : goal.invariant-loop-item
invariant-loop-item l = record {
  numbers : l.account.trail.numbers ≡ l.initial.account.trail.numbers;
  walk : l.walk ≡ net_of l.question.graph.now;
}
