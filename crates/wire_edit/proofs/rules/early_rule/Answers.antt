use Rattle.std.proofs.Common.{Some, sym, ◌∙◌, length, subst}
use Rattle.gate_graph.specs.Circuit.{net_of}
use Rattle.gate_net.specs.Net.{drivers_of}
use Rattle.wire_edit.specs.Inner.Firsts.{IsFirst, reads_constant}
use Rattle.wire_edit.proofs.RuleAt.{unused_rule, constant_rule}
use Rattle.wire_edit.proofs.rules.early_rule.Goals as goal

pub returns-then-not-is_in_use-clause-some : goal.returns-then-not-is_in_use-clause-some
returns-then-not-is_in_use-clause-some c =
    sym (unused_rule (net_of c.args.graph.now) c.args.gate.0 c.requires.kind (sym c.is_in_use.ensures ∙ c.if-not-is_in_use.true))

pub returns-in-Some-clause-some : goal.returns-in-Some-clause-some
returns-in-Some-clause-some c =
    let net = net_of c.args.graph.now in
    let first : IsFirst (reads_constant net c.args.gate.0) (length (drivers_of net c.args.gate.0)) (Some c.in-Some.position) =
    subst (IsFirst (reads_constant net c.args.gate.0) (length (drivers_of net c.args.gate.0))) c.in-Some.is c.requires.constant in
    sym (constant_rule net c.args.gate.0 (sym c.is_in_use.ensures ∙ c.if-not-is_in_use.false) c.requires.kind c.in-Some.position first)
