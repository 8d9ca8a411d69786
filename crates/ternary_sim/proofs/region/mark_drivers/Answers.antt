use Rattle.std.proofs.Common.{List, ap, arith, length, subst, sym, ℕ, ◌<◌, ◌∙◌, ◌≡◌}
use Rattle.std.specs.Prelude.{slice_get}
use Rattle.gate_graph.specs.Circuit.{net_of}
use Rattle.gate_net.specs.Net.{Reads, drivers_of}
use Rattle.local_evaluation.proofs.Public.{yielded_all, yielded_at, yielded_more}
use Rattle.rm_base.specs.declared.numbers.NodeId.{NodeId}
use Rattle.ternary_sim.proofs.Spreading.{more_done, more_next, one_longer}
use Rattle.ternary_sim.proofs.region.mark_drivers.Goals as goal
use Rattle.ternary_sim.specs.Regions.{MarksMore}
use Rattle.rm_base.specs.Members.{AmongFirst}

pub mark_one-requires-clause-marks : goal.mark_one-requires-clause-marks
mark_one-requires-clause-marks c =
    let all : c.into_iter-driver-iterator.result ≡ drivers_of (net_of c.args.graph.now) c.args.node.0 = c.into_iter-driver-iterator.ensures.into_iter_gives ∙ c.gate_pins-driver-items.ensures.drivers in
    let there : Reads (net_of c.args.graph.now) c.args.node.0 (length c.loop-driver.yielded) c.in-Some.driver.0 = ap (λ (xs : List ℕ). slice_get xs (length c.loop-driver.yielded)) (sym all) ∙ yielded_at (λ (d : NodeId). d.0) c.into_iter-driver-iterator.result c.loop-driver.yielded c.in-Some.driver _ _ c.loop-driver.invariant.all c.in-Some.ensures.steps in
    let below : c.in-Some.driver.0 < length (net_of c.args.graph.now).nodes = c.gate_pins-driver-items.ensures.within (length c.loop-driver.yielded) c.in-Some.driver.0 there in
    omega (arith, below, c.requires.marks, c.loop-driver.invariant.size)

pub mark_one-requires-clause-waiting : goal.mark_one-requires-clause-waiting
mark_one-requires-clause-waiting c =
    let all : c.into_iter-driver-iterator.result ≡ drivers_of (net_of c.args.graph.now) c.args.node.0 = c.into_iter-driver-iterator.ensures.into_iter_gives ∙ c.gate_pins-driver-items.ensures.drivers in
    let there : Reads (net_of c.args.graph.now) c.args.node.0 (length c.loop-driver.yielded) c.in-Some.driver.0 = ap (λ (xs : List ℕ). slice_get xs (length c.loop-driver.yielded)) (sym all) ∙ yielded_at (λ (d : NodeId). d.0) c.into_iter-driver-iterator.result c.loop-driver.yielded c.in-Some.driver _ _ c.loop-driver.invariant.all c.in-Some.ensures.steps in
    let below : c.in-Some.driver.0 < length (net_of c.args.graph.now).nodes = c.gate_pins-driver-items.ensures.within (length c.loop-driver.yielded) c.in-Some.driver.0 there in
    omega (arith, below, c.requires.waiting, c.loop-driver.invariant.room)

pub loop-driver-preserved : goal.loop-driver-preserved
loop-driver-preserved c =
    let all : c.into_iter-driver-iterator.result ≡ drivers_of (net_of c.args.graph.now) c.args.node.0 = c.into_iter-driver-iterator.ensures.into_iter_gives ∙ c.gate_pins-driver-items.ensures.drivers in
    let there : Reads (net_of c.args.graph.now) c.args.node.0 (length c.loop-driver.yielded) c.in-Some.driver.0 = ap (λ (xs : List ℕ). slice_get xs (length c.loop-driver.yielded)) (sym all) ∙ yielded_at (λ (d : NodeId). d.0) c.into_iter-driver-iterator.result c.loop-driver.yielded c.in-Some.driver _ _ c.loop-driver.invariant.all c.in-Some.ensures.steps in
    record {
      all = yielded_more (λ (d : NodeId). d.0) c.into_iter-driver-iterator.result c.loop-driver.yielded c.in-Some.driver _ _ c.loop-driver.invariant.all c.in-Some.ensures.steps;
      marks = subst (λ (n : ℕ). MarksMore (AmongFirst (drivers_of (net_of c.args.graph.now) c.args.node.0) n) c.args.marks.now c.mark_one.new.marks c.args.waiting.now c.mark_one.new.waiting) (sym (one_longer c.loop-driver.yielded c.in-Some.driver))
          (more_next (drivers_of (net_of c.args.graph.now) c.args.node.0) (length c.loop-driver.yielded) c.in-Some.driver.0 c.args.marks.now c.loop-driver.marks c.mark_one.new.marks c.args.waiting.now c.loop-driver.waiting c.mark_one.new.waiting there c.loop-driver.invariant.marks c.mark_one.ensures.marked);
      size = c.mark_one.ensures.size ∙ c.loop-driver.invariant.size;
      room = c.mark_one.ensures.room ∙ c.loop-driver.invariant.room;
    }

pub returns-clause-marked : goal.returns-clause-marked
returns-clause-marked c =
    let all : c.into_iter-driver-iterator.result ≡ drivers_of (net_of c.args.graph.now) c.args.node.0 = c.into_iter-driver-iterator.ensures.into_iter_gives ∙ c.gate_pins-driver-items.ensures.drivers in
    let whole : length c.into_iter-driver-iterator.result ≡ length c.loop-driver.yielded = yielded_all (λ (d : NodeId). d.0) c.into_iter-driver-iterator.result c.loop-driver.yielded _ c.loop-driver.invariant.all c.in-None.ensures.steps.0 in
    let long : length (drivers_of (net_of c.args.graph.now) c.args.node.0) ≡ length c.loop-driver.yielded = ap (λ (xs : List ℕ). length xs) (sym all) ∙ whole in
    more_done (drivers_of (net_of c.args.graph.now) c.args.node.0) (length c.loop-driver.yielded) c.args.marks.now c.loop-driver.marks c.args.waiting.now c.loop-driver.waiting (omega (arith, long)) c.loop-driver.invariant.marks
