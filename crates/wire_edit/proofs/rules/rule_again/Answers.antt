use Rattle.std.proofs.Common.{sym, ◌∙◌}
use Rattle.gate_graph.specs.Circuit.{net_of}
use Rattle.wire_edit.proofs.RuleAt.{no_rule}
use Rattle.wire_edit.proofs.rules.rule_again.Goals as goal

pub returns-then-not-is_gate-clause-rule : goal.returns-then-not-is_gate-clause-rule
returns-then-not-is_gate-clause-rule c = sym (no_rule (net_of c.args.graph.now) c.args.kept.now.gate.0 (sym c.is_gate.ensures ∙ c.if-not-is_gate.true))
