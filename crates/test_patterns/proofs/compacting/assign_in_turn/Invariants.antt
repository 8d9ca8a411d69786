use Rattle.gate_graph.specs.Circuit.{net_of}
use Rattle.test_patterns.specs.TestSets.{AreTests}
use Rattle.test_patterns.proofs.compacting.assign_in_turn.Given as goal

abbrev pub invariant-loop : goal.invariant-loop
invariant-loop l = AreTests (net_of l.known.graph.now) l.known.faults.now l.known.vectors.now l.known.numbers.now l.best.patterns.items l.best.firsts.items
