use Rattle.std.proofs.Common.{length, ◌≤◌}
use Rattle.gate_graph.specs.Circuit.{net_of}
use Rattle.reasoning_tests.proofs.engine.parts.derivable.Given as goal

abbrev pub invariant-loop-round : goal.invariant-loop-round
invariant-loop-round l = record { facts : length (net_of l.question.graph.now).nodes ≤ length l.facts; marks : length (net_of l.question.graph.now).nodes ≤ l.marks }
