use Rattle.std.proofs.Common.{◌≡◌}
use Rattle.gate_graph.specs.Circuit.{fanouts_of}
use Rattle.test_nets.proofs.editing.is_unread.Given as goal

abbrev pub invariant-loop : goal.invariant-loop
invariant-loop l = l.iterator' ≡ fanouts_of l.graph l.fn.node.0
