use Rattle.std.proofs.Common.{◌≡◌, ◌<◌, ℕ, None}
use Rattle.gate_graph.specs.Circuit.{net_of}
use Rattle.wire_edit.specs.Order.{rule_at}
use Rattle.wire_edit.proofs.rules.first_rule_by.Given as goal

abbrev pub invariant-loop-number : goal.invariant-loop-number
invariant-loop-number l = record {
  none : (k : ℕ) → k < l.number → rule_at (net_of l.graph) k ≡ None;
  seen : l.seen ≡ l.fn.seen;
}
