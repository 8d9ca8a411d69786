use Rattle.std.proofs.Common.{length, ◌≡◌, ◌≤◌}
use Rattle.gate_graph.specs.Circuit.{net_of}
use Rattle.refutation_check.proofs.shorten.kept_of.Given as goal

abbrev pub invariant-loop-item : goal.invariant-loop-item
invariant-loop-item l = record {
  numbers : length (net_of l.question.graph.now).nodes ≤ l.account.trail.numbers;
  walk : l.walk ≡ net_of l.question.graph.now;
}
