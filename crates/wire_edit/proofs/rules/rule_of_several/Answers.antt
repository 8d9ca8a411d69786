use Rattle.std.proofs.Common.{◌≡◌, Some, None, sym, ap, ◌∙◌, arith}
use Rattle.std.specs.Option.{option_map}
use Rattle.std.proofs.lemmas.Option.{slice_get_within}
use Rattle.rm_base.specs.declared.numbers.NodeId.{NodeId}
use Rattle.gate_graph.specs.Circuit.{net_of}
use Rattle.gate_net.specs.Net.{drivers_of}
use Rattle.wire_edit.specs.Tests.{driver_at}
use Rattle.wire_edit.proofs.Tested.{several_gate}
use Rattle.wire_edit.proofs.RuleAt.{empty_rule, single_rule, wide_rule}
use Rattle.wire_edit.proofs.Reading.{past_end, few_junction}
use Rattle.wire_edit.proofs.rules.rule_of_several.Goals as goal

pub returns-in_default : goal.returns-in_default
returns-in_default c =
    let net = net_of c.args.graph.now in
    let none : driver_at net c.args.gate.0 0 ≡ None = sym c.driver.ensures ∙ ap (option_map (λ (n : NodeId). n.0)) c.in_default.is in
    let le = past_end (drivers_of net c.args.gate.0) 0 none in
    sym (empty_rule net c.args.gate.0 c.requires.used (several_gate net c.args.gate.0 c.requires.kind) c.requires.none c.requires.kind c.requires.apart (few_junction net c.well_formed-2.ensures.net c.args.gate.0 c.requires.kind (omega (arith, le))) (omega (arith, le)))

pub returns-in-None : goal.returns-in-None
returns-in-None c =
    let net = net_of c.args.graph.now in
    let none : driver_at net c.args.gate.0 1 ≡ None = sym c.driver-2.ensures ∙ ap (option_map (λ (n : NodeId). n.0)) c.in-None.is in
    let le = past_end (drivers_of net c.args.gate.0) 1 none in
    let first : driver_at net c.args.gate.0 0 ≡ Some _ = sym c.driver.ensures ∙ ap (option_map (λ (n : NodeId). n.0)) c.in-Some.is in
    let lt = slice_get_within (drivers_of net c.args.gate.0) 0 _ first in
    sym (single_rule net c.args.gate.0 c.requires.used (several_gate net c.args.gate.0 c.requires.kind) c.requires.none c.requires.kind c.requires.apart (few_junction net c.well_formed-2.ensures.net c.args.gate.0 c.requires.kind (omega (arith, le))) (omega (arith, le, lt)))

pub returns-in-Some-driver : goal.returns-in-Some-driver
returns-in-Some-driver c =
    let net = net_of c.args.graph.now in
    let second : driver_at net c.args.gate.0 1 ≡ Some _ = sym c.driver-2.ensures ∙ ap (option_map (λ (n : NodeId). n.0)) c.in-Some-driver.is in
    sym (wide_rule net c.args.gate.0 c.requires.used (several_gate net c.args.gate.0 c.requires.kind) c.requires.none c.requires.kind c.requires.apart (slice_get_within (drivers_of net c.args.gate.0) 1 _ second))
