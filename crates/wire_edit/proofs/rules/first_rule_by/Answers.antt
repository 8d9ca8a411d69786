use Rattle.std.proofs.Common.{sym, ◌∙◌, arith, length}
use Rattle.gate_graph.specs.Circuit.{net_of}
use Rattle.wire_edit.specs.Order.{rule_at}
use Rattle.wire_edit.proofs.Ordering.{none_from}
use Rattle.wire_edit.proofs.RuleAt.{first_found}
use Rattle.wire_edit.proofs.rules.first_rule_by.Goals as goal

pub returns-in-Some-clause-first : goal.returns-in-Some-clause-first
returns-in-Some-clause-first c =
    let net = net_of c.args.graph.now in
    sym (first_found (rule_at net) 0 (length net.nodes) c.loop-number.number c.in-Some.step (omega arith) (omega (arith, c.node_bound-number-end.ensures)) (sym c.rule_at.ensures.rule ∙ c.in-Some.is) (λ j le lt. c.loop-number.invariant.none j lt))

pub returns-clause-first : goal.returns-clause-first
returns-clause-first c =
    let net = net_of c.args.graph.now in
    sym (none_from (rule_at net) 0 (length net.nodes) (λ k le lt. c.loop-number.invariant.none k (omega (arith, lt, c.node_bound-number-end.ensures))))
