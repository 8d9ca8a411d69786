use Rattle.std.proofs.Common.{◌≡◌, ◌<◌, ◌≤◌, true, Some, length, refl, sym, ap, ◌∙◌, arith}
use Rattle.std.specs.Prelude.{slice_get}
use Rattle.std.proofs.lemmas.Option.{slice_get_within}
use Rattle.rm_base.specs.declared.numbers.NodeId.{NodeId}
use Rattle.gate_graph.specs.Circuit.{net_of}
use Rattle.gate_net.specs.Net.{drivers_of, wire_count}
use Rattle.wire_edit.specs.Tests.{is_among, is_repeated}
use Rattle.wire_edit.proofs.Marking.{marked_is, set_count}
use Rattle.wire_edit.proofs.Reading.{repeated_test}
use Rattle.wire_edit.proofs.Walks.{march, none_more}
use Rattle.wire_edit.proofs.Repeating.{marks_one, take_most, drivers_below}
use Rattle.wire_edit.proofs.KnownPins.{rest_place, rest_end, few_drivers, one_further}
use Rattle.wire_edit.proofs.seen.mark_drivers.Goals as goal

pub bounds-marks-place : goal.bounds-marks-place
bounds-marks-place c =
    let i = c.loop-driver.invariant in
    let net = net_of c.args.graph.now in
    let ds = drivers_of net c.args.gate.0 in
    let there : slice_get ds c.loop-driver.position ≡ Some c.in-Some.driver.0 = rest_place ds c.args.from c.loop-driver.position c.loop-driver.yielded _ _ c.in-Some.driver.0 i.all i.count c.in-Some.ensures.steps in
    let place : c.in-Some.driver.0 < length c.loop-driver.marks = drivers_below net c.args.gate.0 (length c.loop-driver.marks) ds c.well_formed-2.ensures.net i.room refl c.loop-driver.position c.in-Some.driver.0 there in
    place

pub bounds-marks-place-in-loop-driver : goal.bounds-marks-place-in-loop-driver
bounds-marks-place-in-loop-driver c =
    let i = c.loop-driver.invariant in
    let net = net_of c.args.graph.now in
    let ds = drivers_of net c.args.gate.0 in
    let there : slice_get ds c.loop-driver.position ≡ Some c.in-Some.driver.0 = rest_place ds c.args.from c.loop-driver.position c.loop-driver.yielded _ _ c.in-Some.driver.0 i.all i.count c.in-Some.ensures.steps in
    let place : c.in-Some.driver.0 < length c.loop-driver.marks = drivers_below net c.args.gate.0 (length c.loop-driver.marks) ds c.well_formed-2.ensures.net i.room refl c.loop-driver.position c.in-Some.driver.0 there in
    place

pub returns-then-marks-place-clause-first : goal.returns-then-marks-place-clause-first
returns-then-marks-place-clause-first c =
    let i = c.loop-driver.invariant in
    let net = net_of c.args.graph.now in
    let ds = drivers_of net c.args.gate.0 in
    let there : slice_get ds c.loop-driver.position ≡ Some c.in-Some.driver.0 = rest_place ds c.args.from c.loop-driver.position c.loop-driver.yielded _ _ c.in-Some.driver.0 i.all i.count c.in-Some.ensures.steps in
    let place : c.in-Some.driver.0 < length c.loop-driver.marks = drivers_below net c.args.gate.0 (length c.loop-driver.marks) ds c.well_formed-2.ensures.net i.room refl c.loop-driver.position c.in-Some.driver.0 there in (
      slice_get_within ds c.loop-driver.position c.in-Some.driver.0 there,
      (repeated_test ds c.loop-driver.position c.in-Some.driver.0 there ∙ sym (i.marks c.in-Some.driver.0) ∙ sym (marked_is c.loop-driver.marks c.in-Some.driver.0 _ place) ∙ c.if-marks-place.true, i.none),
    )

pub loop-driver-preserved : goal.loop-driver-preserved
loop-driver-preserved c =
    let i = c.loop-driver.invariant in
    let net = net_of c.args.graph.now in
    let ds = drivers_of net c.args.gate.0 in
    let there : slice_get ds c.loop-driver.position ≡ Some c.in-Some.driver.0 = rest_place ds c.args.from c.loop-driver.position c.loop-driver.yielded _ _ c.in-Some.driver.0 i.all i.count c.in-Some.ensures.steps in
    let place : c.in-Some.driver.0 < length c.loop-driver.marks = drivers_below net c.args.gate.0 (length c.loop-driver.marks) ds c.well_formed-2.ensures.net i.room refl c.loop-driver.position c.in-Some.driver.0 there in
    record {
      all = march (λ (n : NodeId). n.0) _ c.loop-driver.yielded _ _ c.in-Some.driver i.all c.in-Some.ensures.steps;
      count = one_further c.loop-driver.yielded c.in-Some.driver c.args.from c.loop-driver.position i.count;
      none = none_more (is_repeated ds) c.loop-driver.position i.none
          (repeated_test ds c.loop-driver.position c.in-Some.driver.0 there ∙ sym (i.marks c.in-Some.driver.0) ∙ sym (marked_is c.loop-driver.marks c.in-Some.driver.0 _ place) ∙ c.if-marks-place.false);
      marks = marks_one ds c.loop-driver.position c.in-Some.driver.0 c.loop-driver.marks i.marks there place;
      room = omega (arith, i.room, set_count c.loop-driver.marks c.in-Some.driver.0 true);
    }

pub overflow_add-position : goal.overflow_add-position
overflow_add-position c =
    let i = c.loop-driver.invariant in
    let net = net_of c.args.graph.now in
    let ds = drivers_of net c.args.gate.0 in
    let there : slice_get ds c.loop-driver.position ≡ Some c.in-Some.driver.0 = rest_place ds c.args.from c.loop-driver.position c.loop-driver.yielded _ _ c.in-Some.driver.0 i.all i.count c.in-Some.ensures.steps in
    let place : c.in-Some.driver.0 < length c.loop-driver.marks = drivers_below net c.args.gate.0 (length c.loop-driver.marks) ds c.well_formed-2.ensures.net i.room refl c.loop-driver.position c.in-Some.driver.0 there in
    let lt : c.loop-driver.position < length ds = slice_get_within ds c.loop-driver.position c.in-Some.driver.0 there in
    let few : length ds ≤ wire_count net = few_drivers net c.args.gate.0 in
    omega (arith, lt, few, c.well_formed-2.ensures.pins, c.well_formed-2.ensures.few)

pub returns-clause-first : goal.returns-clause-first
returns-clause-first c = λ k lt.
    let i = c.loop-driver.invariant in
    let end : length (drivers_of (net_of c.args.graph.now) c.args.gate.0) ≤ c.loop-driver.position = rest_end (drivers_of (net_of c.args.graph.now) c.args.gate.0) c.args.from c.loop-driver.position c.loop-driver.yielded _ i.all i.count c.in-None.ensures.steps.0 in
    i.none k (omega (arith, lt, end))

pub returns-clause-marks : goal.returns-clause-marks
returns-clause-marks c = λ x.
    let i = c.loop-driver.invariant in
    let net = net_of c.args.graph.now in
    let ds = drivers_of net c.args.gate.0 in
    let end : length ds ≤ c.loop-driver.position = rest_end ds c.args.from c.loop-driver.position c.loop-driver.yielded _ i.all i.count c.in-None.ensures.steps.0 in
    let few : length ds ≤ wire_count net = few_drivers net c.args.gate.0 in
    i.marks x ∙ ap (is_among x) (take_most ds c.loop-driver.position 4294967295 end (omega (arith, few, c.well_formed-2.ensures.pins, c.well_formed-2.ensures.few)))
