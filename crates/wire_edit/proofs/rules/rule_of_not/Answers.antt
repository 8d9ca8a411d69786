use Rattle.std.proofs.Common.{Some, None, sym, ap, ◌∙◌}
use Rattle.std.specs.Option.{option_map}
use Rattle.rm_base.specs.declared.numbers.NodeId.{NodeId}
use Rattle.gate_graph.specs.Circuit.{net_of}
use Rattle.wire_edit.specs.Inner.Firsts.{IsFirst, is_twin}
use Rattle.wire_edit.proofs.Tested.{not_gate}
use Rattle.wire_edit.proofs.RuleAt.{twice_rule, twin_rule, lone_rule}
use Rattle.wire_edit.proofs.Reading.{not_driven}
use Rattle.wire_edit.proofs.rules.rule_of_not.Goals as goal

pub returns-in_default : goal.returns-in_default
returns-in_default c = absurd (not_driven (net_of c.args.graph.now) c.args.gate.0 c.well_formed-2.ensures.net c.requires.kind (sym c.driver.ensures ∙ ap (option_map (λ (n : NodeId). n.0)) c.in_default.is))

pub returns-then-is_not : goal.returns-then-is_not
returns-then-is_not c =
    let net = net_of c.args.graph.now in
    sym (twice_rule net c.args.gate.0 c.requires.used (not_gate net c.args.gate.0 c.requires.kind) c.requires.none c.requires.kind c.in-Some.driver.0 (sym c.driver.ensures ∙ ap (option_map (λ (n : NodeId). n.0)) c.in-Some.is) (sym c.is_not.ensures ∙ c.if-is_not.true))

pub least_twin-requires-clause-driver : goal.least_twin-requires-clause-driver
least_twin-requires-clause-driver c = sym (sym c.driver.ensures ∙ ap (option_map (λ (n : NodeId). n.0)) c.in-Some.is)

pub returns-in-Some-least_twin : goal.returns-in-Some-least_twin
returns-in-Some-least_twin c =
    let net = net_of c.args.graph.now in
    let first : IsFirst (is_twin net c.args.gate.0) c.args.gate.0 (Some c.in-Some-least_twin.other) = c.in-Some-least_twin.ensures in
    sym (twin_rule net c.args.gate.0 c.requires.used (not_gate net c.args.gate.0 c.requires.kind) c.requires.none c.requires.kind c.in-Some.driver.0 (sym c.driver.ensures ∙ ap (option_map (λ (n : NodeId). n.0)) c.in-Some.is) (sym c.is_not.ensures ∙ c.if-is_not.false) c.in-Some-least_twin.other first)

pub returns-in-None : goal.returns-in-None
returns-in-None c =
    let net = net_of c.args.graph.now in
    let none : IsFirst (is_twin net c.args.gate.0) c.args.gate.0 None = c.in-None.ensures in
    sym (lone_rule net c.args.gate.0 c.requires.used (not_gate net c.args.gate.0 c.requires.kind) c.requires.none c.requires.kind c.in-Some.driver.0 (sym c.driver.ensures ∙ ap (option_map (λ (n : NodeId). n.0)) c.in-Some.is) (sym c.is_not.ensures ∙ c.if-is_not.false) none)
