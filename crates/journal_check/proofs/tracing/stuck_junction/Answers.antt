use Rattle.std.proofs.Common.{Bool, Some, ap, arith, length, length-append, map, refl, sym, ◌+◌, ◌∙◌, ◌≡◌, ◌<◌, ◌≤◌}
use Rattle.std.specs.Prelude.{slice_get, slice_set}
use Rattle.refutation.proofs.Public.{yielded_all, yielded_at, yielded_below, yielded_more}
use Rattle.gate_net.proofs.Public.{junction_member}
use Rattle.fault_sim.specs.Words.{lane_values}
use Rattle.journal_check.proofs.TracingLaws.{different_value, none_controls, none_more, read_within, same_value, stuck_pin}
use Rattle.journal_check.proofs.tracing.stuck_junction.Goals as goal

pub returns-then-read_at-controlling : goal.returns-then-read_at-controlling
returns-then-read_at-controlling c =
    let there : slice_get c.args.drivers c.loop-driver.place ≡ Some c.in-Some.driver.0 = rw c.loop-driver.invariant.count (yielded_at (λ d. d.0) c.args.drivers c.loop-driver.yielded c.in-Some.driver _ _ c.loop-driver.invariant.all c.in-Some.ensures.steps) in
    sym (junction_member c.args.controlling (slice_set (map (lane_values c.args.lanes.now.good c.args.lane) c.args.drivers) c.args.fault.position c.args.fault.value) c.loop-driver.place
    (stuck_pin (lane_values c.args.lanes.now.good c.args.lane) c.args.drivers c.args.fault.position c.args.fault.value c.loop-driver.place c.in-Some.driver.0 there
    ∙ ap (λ (b : Bool). Some b) (sym c.read_at.ensures ∙ same_value c.read_at.result c.args.controlling c.if-read_at-controlling.true)))

pub overflow_add-place : goal.overflow_add-place
overflow_add-place c =
    let few : length c.loop-driver.yielded + 1 ≤ length c.args.drivers = yielded_below (λ d. d.0) c.args.drivers c.loop-driver.yielded c.in-Some.driver _ _ c.loop-driver.invariant.all c.in-Some.ensures.steps in
    omega (arith, few, c.requires.few, c.loop-driver.invariant.count)

pub loop-driver-preserved : goal.loop-driver-preserved
loop-driver-preserved c =
    let there : slice_get c.args.drivers c.loop-driver.place ≡ Some c.in-Some.driver.0 = rw c.loop-driver.invariant.count (yielded_at (λ d. d.0) c.args.drivers c.loop-driver.yielded c.in-Some.driver _ _ c.loop-driver.invariant.all c.in-Some.ensures.steps) in
    record {
      all = yielded_more (λ d. d.0) c.args.drivers c.loop-driver.yielded c.in-Some.driver _ _ c.loop-driver.invariant.all c.in-Some.ensures.steps;
      count = rw (length-append, c.loop-driver.invariant.count) refl;
      none = none_more (slice_set (map (lane_values c.args.lanes.now.good c.args.lane) c.args.drivers) c.args.fault.position c.args.fault.value) c.args.controlling c.read_at.result c.loop-driver.place c.loop-driver.invariant.none
          (stuck_pin (lane_values c.args.lanes.now.good c.args.lane) c.args.drivers c.args.fault.position c.args.fault.value c.loop-driver.place c.in-Some.driver.0 there ∙ ap (λ (b : Bool). Some b) (sym c.read_at.ensures))
          (different_value c.read_at.result c.args.controlling c.if-read_at-controlling.false);
    }

pub returns : goal.returns
returns c =
    let all : length c.args.drivers ≡ length c.loop-driver.yielded = yielded_all (λ d. d.0) c.args.drivers c.loop-driver.yielded _ c.loop-driver.invariant.all c.in-None.ensures.steps.0 in
    sym (none_controls c.args.controlling (slice_set (map (lane_values c.args.lanes.now.good c.args.lane) c.args.drivers) c.args.fault.position c.args.fault.value)
    (λ k e. c.loop-driver.invariant.none k (let within : k < length c.args.drivers = read_within (lane_values c.args.lanes.now.good c.args.lane) c.args.drivers c.args.fault.position c.args.fault.value k c.args.controlling e in omega (arith, all, within, c.loop-driver.invariant.count)) e))
