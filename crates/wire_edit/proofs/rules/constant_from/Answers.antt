use Rattle.std.proofs.Common.{◌∙◌, ◌≡◌, ◌<◌, ◌≤◌, Some, sym, arith, length}
use Rattle.std.proofs.lemmas.Option.{slice_get_within}
use Rattle.rm_base.specs.declared.numbers.NodeId.{NodeId}
use Rattle.gate_graph.specs.Circuit.{net_of}
use Rattle.gate_net.specs.Net.{drivers_of, wire_count}
use Rattle.wire_edit.specs.Tests.{driver_at}
use Rattle.wire_edit.specs.Inner.Firsts.{reads_constant}
use Rattle.wire_edit.proofs.Walks.{march, none_more}
use Rattle.wire_edit.proofs.Reading.{constant_test}
use Rattle.wire_edit.proofs.KnownPins.{rest_place, rest_end, few_drivers, one_further}
use Rattle.wire_edit.proofs.rules.constant_from.Goals as goal

pub returns-then-is_constant : goal.returns-then-is_constant
returns-then-is_constant c =
    let i = c.loop-driver.invariant in
    let net = net_of c.args.graph.now in
    let here : driver_at net c.args.gate.0 c.loop-driver.position ≡ Some c.in-Some.driver.0 = rest_place (drivers_of net c.args.gate.0) c.args.from c.loop-driver.position c.loop-driver.yielded _ _ c.in-Some.driver.0 i.all i.count c.in-Some.ensures.steps in (
      slice_get_within (drivers_of net c.args.gate.0) c.loop-driver.position c.in-Some.driver.0 here,
      (constant_test net c.args.gate.0 c.loop-driver.position c.in-Some.driver.0 here ∙ sym c.is_constant.ensures ∙ c.if-is_constant.true, i.none),
    )

pub loop-driver-preserved : goal.loop-driver-preserved
loop-driver-preserved c =
    let i = c.loop-driver.invariant in
    let net = net_of c.args.graph.now in
    let here : driver_at net c.args.gate.0 c.loop-driver.position ≡ Some c.in-Some.driver.0 = rest_place (drivers_of net c.args.gate.0) c.args.from c.loop-driver.position c.loop-driver.yielded _ _ c.in-Some.driver.0 i.all i.count c.in-Some.ensures.steps in
    record {
      all = march (λ (n : NodeId). n.0) _ c.loop-driver.yielded _ _ c.in-Some.driver i.all c.in-Some.ensures.steps;
      count = one_further c.loop-driver.yielded c.in-Some.driver c.args.from c.loop-driver.position i.count;
      none = none_more (reads_constant net c.args.gate.0) c.loop-driver.position i.none
          (constant_test net c.args.gate.0 c.loop-driver.position c.in-Some.driver.0 here ∙ sym c.is_constant.ensures ∙ c.if-is_constant.false);
    }

pub overflow_add-position : goal.overflow_add-position
overflow_add-position c =
    let i = c.loop-driver.invariant in
    let net = net_of c.args.graph.now in
    let lt : c.loop-driver.position < length (drivers_of net c.args.gate.0) =
    slice_get_within (drivers_of net c.args.gate.0) c.loop-driver.position c.in-Some.driver.0 (rest_place (drivers_of net c.args.gate.0) c.args.from c.loop-driver.position c.loop-driver.yielded _ _ c.in-Some.driver.0 i.all i.count c.in-Some.ensures.steps) in
    let few : length (drivers_of net c.args.gate.0) ≤ wire_count net = few_drivers net c.args.gate.0 in
    omega (arith, lt, few, c.well_formed-2.ensures.pins, c.well_formed-2.ensures.few)

pub returns : goal.returns
returns c = λ k lt.
    let i = c.loop-driver.invariant in
    let end : length (drivers_of (net_of c.args.graph.now) c.args.gate.0) ≤ c.loop-driver.position = rest_end (drivers_of (net_of c.args.graph.now) c.args.gate.0) c.args.from c.loop-driver.position c.loop-driver.yielded _ i.all i.count c.in-None.ensures.steps.0 in
    i.none k (omega (arith, lt, end))
