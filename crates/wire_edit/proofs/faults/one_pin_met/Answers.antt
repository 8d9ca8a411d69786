use Rattle.std.proofs.Common.{◌≡◌, Some, None, sym, ap, ◌∙◌, length, arith}
use Rattle.std.specs.Option.{option_map}
use Rattle.std.proofs.lemmas.Bool.{eq-eqb, ne_eqb}
use Rattle.std.proofs.lemmas.Option.{slice_get_within}
use Rattle.rm_base.specs.declared.numbers.NodeId.{NodeId}
use Rattle.gate_graph.specs.Circuit.{net_of}
use Rattle.gate_net.specs.Net.{drivers_of}
use Rattle.wire_edit.specs.Tests.{driver_at}
use Rattle.wire_edit.proofs.Reading.{past_end, met_by}
use Rattle.wire_edit.proofs.faults.one_pin_met.Goals as goal

pub returns-in_default : goal.returns-in_default
returns-in_default c =
    let net = net_of c.args.graph.now in
    let none : driver_at net c.args.gate.0 0 ≡ None = sym c.driver.ensures ∙ ap (option_map (λ (n : NodeId). n.0)) c.in_default.is in
    let le = past_end (drivers_of net c.args.gate.0) 0 none in
    sym (met_by _ _ _ (sym c.is_junction.ensures ∙ c.if-not-is_junction.false) (sym c.is_in_use.ensures ∙ c.if-not-is_in_use.false) ∙ ne_eqb (length (drivers_of net c.args.gate.0)) 1 (λ e. omega (arith, le, e)))

pub returns-in-Some-driver : goal.returns-in-Some-driver
returns-in-Some-driver c =
    let net = net_of c.args.graph.now in
    let second : driver_at net c.args.gate.0 1 ≡ Some _ = sym c.driver-2.ensures ∙ ap (option_map (λ (n : NodeId). n.0)) c.in-Some-driver.is in
    let lt = slice_get_within (drivers_of net c.args.gate.0) 1 _ second in
    sym (met_by _ _ _ (sym c.is_junction.ensures ∙ c.if-not-is_junction.false) (sym c.is_in_use.ensures ∙ c.if-not-is_in_use.false) ∙ ne_eqb (length (drivers_of net c.args.gate.0)) 1 (λ e. omega (arith, lt, e)))

pub returns-in-None : goal.returns-in-None
returns-in-None c =
    let net = net_of c.args.graph.now in
    let none : driver_at net c.args.gate.0 1 ≡ None = sym c.driver-2.ensures ∙ ap (option_map (λ (n : NodeId). n.0)) c.in-None.is in
    let le = past_end (drivers_of net c.args.gate.0) 1 none in
    let first : driver_at net c.args.gate.0 0 ≡ Some _ = sym c.driver.ensures ∙ ap (option_map (λ (n : NodeId). n.0)) c.in-Some.is in
    let lt = slice_get_within (drivers_of net c.args.gate.0) 0 _ first in
    sym (met_by _ _ _ (sym c.is_junction.ensures ∙ c.if-not-is_junction.false) (sym c.is_in_use.ensures ∙ c.if-not-is_in_use.false) ∙ eq-eqb (length (drivers_of net c.args.gate.0)) 1 (omega (arith, le, lt)))
