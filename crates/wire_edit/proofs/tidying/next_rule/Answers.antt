use Rattle.std.proofs.Common.{sym, ◌∙◌, subst}
use Rattle.gate_graph.specs.Circuit.{net_of}
use Rattle.wire_edit.specs.Inner.Marked.{IsQuiet}
use Rattle.wire_edit.proofs.Trying.{next_found, next_none}
use Rattle.wire_edit.proofs.tidying.next_rule.Goals as goal

pub returns-in-Some-rule_known-clause-next : goal.returns-in-Some-rule_known-clause-next
returns-in-Some-rule_known-clause-next c =
    sym (next_found (net_of c.args.graph.now) c.least.new.self c.in-Some.number c.in-Some-rule_known.step
    (subst (IsQuiet (net_of c.args.graph.now)) (sym c.least.ensures.same) c.loop-number.invariant.quiet) c.in-Some.ensures.least.1 (sym c.rule_known.ensures.rule ∙ c.in-Some-rule_known.is))

pub returns-clause-next : goal.returns-clause-next
returns-clause-next c =
    sym (next_none (net_of c.args.graph.now) c.least.new.self (subst (IsQuiet (net_of c.args.graph.now)) (sym c.least.ensures.same) c.loop-number.invariant.quiet) c.in_default.ensures.least)
