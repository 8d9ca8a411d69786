use Rattle.std.proofs.Common.{length, ◌≤◌}
use Rattle.gate_graph.specs.Circuit.{net_of}
use Rattle.reasoning_tests.proofs.engine.drawn.count_faults.Given as goal

abbrev pub invariant-loop-number : goal.invariant-loop-number
invariant-loop-number l = length (net_of l.graph).nodes ≤ l.engine.numbers
