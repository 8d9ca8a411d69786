use Rattle.std.proofs.Common.{length, ◌≤◌}
use Rattle.gate_graph.specs.Circuit.{net_of}
use Rattle.reasoning_tests.proofs.engine.answers.lead_to.Given as goal

abbrev pub invariant-loop-item : goal.invariant-loop-item
invariant-loop-item l = record { facts : length (net_of l.question.graph.now).nodes ≤ length l.led; marks : length (net_of l.question.graph.now).nodes ≤ l.marks }
