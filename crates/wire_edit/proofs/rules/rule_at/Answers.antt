use Rattle.std.proofs.Common.{sym, ◌∙◌}
use Rattle.gate_graph.specs.Circuit.{net_of}
use Rattle.wire_edit.proofs.RuleAt.{no_rule}
use Rattle.wire_edit.proofs.Reading.{gate_live}
use Rattle.wire_edit.proofs.rules.rule_at.Goals as goal

pub returns-then-not-is_gate-clause-rule : goal.returns-then-not-is_gate-clause-rule
returns-then-not-is_gate-clause-rule c = sym (no_rule (net_of c.args.graph.now) c.args.gate.0 (sym c.is_gate.ensures ∙ c.if-not-is_gate.true))

pub constant_from-constant-requires-clause-live : goal.constant_from-constant-requires-clause-live
constant_from-constant-requires-clause-live c = gate_live (net_of c.args.graph.now) c.args.gate.0 (sym c.is_gate.ensures ∙ c.if-not-is_gate.false)

pub first_repeated-repeated-requires-clause-live : goal.first_repeated-repeated-requires-clause-live
first_repeated-repeated-requires-clause-live c = gate_live (net_of c.args.graph.now) c.args.gate.0 (sym c.is_gate.ensures ∙ c.if-not-is_gate.false)
