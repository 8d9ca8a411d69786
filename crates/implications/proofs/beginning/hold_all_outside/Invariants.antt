use Rattle.gate_graph.specs.Circuit.{net_of}
use Rattle.std.proofs.Common.{length, ◌≡◌}
use Rattle.implications.proofs.beginning.hold_all_outside.Given as goal
use Rattle.implications.specs.Outside.{BeginsBelow}

abbrev pub invariant-loop-number : goal.invariant-loop-number
invariant-loop-number l = BeginsBelow (net_of l.question.graph.now) l.question.fault l.number l.facts l.worklist × (length l.worklist ≡ length l.initial.worklist)
