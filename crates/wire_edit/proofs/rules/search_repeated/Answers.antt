use Rattle.std.proofs.Common.{◌∙◌, ◌≡◌, Some, sym, ap, arith, length}
use Rattle.rm_base.specs.declared.numbers.NodeId.{NodeId}
use Rattle.gate_graph.specs.Circuit.{net_of}
use Rattle.gate_net.specs.Net.{drivers_of}
use Rattle.wire_edit.specs.Tests.{driver_at}
use Rattle.wire_edit.specs.Tests.{is_repeated}
use Rattle.wire_edit.proofs.Walks.{next_place, walked, march, pushed, none_more}
use Rattle.wire_edit.proofs.Reading.{repeated_test}
use Rattle.wire_edit.proofs.rules.search_repeated.Goals as goal

pub returns-then-reads_before : goal.returns-then-reads_before
returns-then-reads_before c =
    let i = c.loop-driver.invariant in
    let net = net_of c.args.graph.now in
    let there : driver_at net c.args.gate.0 (length c.loop-driver.yielded) ≡ Some c.in-Some.driver.0 = next_place (λ (n : NodeId). n.0) (drivers_of net c.args.gate.0) c.loop-driver.yielded _ _ c.in-Some.driver.0 i.all c.in-Some.ensures.steps in
    let here : driver_at net c.args.gate.0 c.loop-driver.position ≡ Some c.in-Some.driver.0 = ap (driver_at net c.args.gate.0) i.count ∙ there in
    let total = walked (λ (n : NodeId). n.0) (drivers_of net c.args.gate.0) c.loop-driver.yielded _ i.all in (
      omega (arith, total, ap length c.in-Some.ensures.steps, i.count),
      (repeated_test (drivers_of net c.args.gate.0) c.loop-driver.position c.in-Some.driver.0 here ∙ sym c.reads_before.ensures ∙ c.if-reads_before.true, i.none),
    )

pub loop-driver-preserved : goal.loop-driver-preserved
loop-driver-preserved c =
    let i = c.loop-driver.invariant in
    let net = net_of c.args.graph.now in
    let there : driver_at net c.args.gate.0 (length c.loop-driver.yielded) ≡ Some c.in-Some.driver.0 = next_place (λ (n : NodeId). n.0) (drivers_of net c.args.gate.0) c.loop-driver.yielded _ _ c.in-Some.driver.0 i.all c.in-Some.ensures.steps in
    let here : driver_at net c.args.gate.0 c.loop-driver.position ≡ Some c.in-Some.driver.0 = ap (driver_at net c.args.gate.0) i.count ∙ there in
    record {
      all = march (λ (n : NodeId). n.0) (drivers_of net c.args.gate.0) c.loop-driver.yielded _ _ c.in-Some.driver i.all c.in-Some.ensures.steps;
      count = pushed c.loop-driver.yielded c.in-Some.driver c.loop-driver.position i.count;
      none = none_more (is_repeated (drivers_of net c.args.gate.0)) c.loop-driver.position i.none
          (repeated_test (drivers_of net c.args.gate.0) c.loop-driver.position c.in-Some.driver.0 here ∙ sym c.reads_before.ensures ∙ c.if-reads_before.false);
    }

pub overflow_add-position : goal.overflow_add-position
overflow_add-position c =
    let i = c.loop-driver.invariant in
    let total = walked (λ (n : NodeId). n.0) (drivers_of (net_of c.args.graph.now) c.args.gate.0) c.loop-driver.yielded _ i.all in
    omega (arith, total, ap length c.in-Some.ensures.steps, i.count, c.inputs_of-driver-items.ensures.few, ap length c.inputs_of-driver-items.ensures.drivers)

pub returns : goal.returns
returns c = λ k lt.
    let i = c.loop-driver.invariant in
    let total = walked (λ (n : NodeId). n.0) (drivers_of (net_of c.args.graph.now) c.args.gate.0) c.loop-driver.yielded _ i.all in
    i.none k (omega (arith, lt, total, ap length c.in-None.ensures.steps.0, i.count))
