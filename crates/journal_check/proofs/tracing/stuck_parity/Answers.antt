use Rattle.std.proofs.Common.{Bool, List, Some, ap, arith, drop, length, length-append, map, refl, sym, ◌+◌, ◌∙◌, ◌≡◌, ◌<◌, ◌≤◌}
use Rattle.std.specs.Prelude.{slice_get, slice_set}
use Rattle.gate_net.specs.Meaning.{parity}
use Rattle.refutation.proofs.Public.{yielded_all, yielded_at, yielded_below, yielded_more}
use Rattle.fault_sim.specs.Words.{lane_values}
use Rattle.journal_check.proofs.TracingLaws.{parity_at, parity_end, read_within, stuck_pin, turned_is}
use Rattle.journal_check.proofs.tracing.stuck_parity.Goals as goal

pub overflow_add-place : goal.overflow_add-place
overflow_add-place c =
    let few : length c.loop-driver.yielded + 1 ≤ length c.args.drivers = yielded_below (λ d. d.0) c.args.drivers c.loop-driver.yielded c.in-Some.driver _ _ c.loop-driver.invariant.all c.in-Some.ensures.steps in
    omega (arith, few, c.requires.few, c.loop-driver.invariant.count)

pub loop-driver-preserved : goal.loop-driver-preserved
loop-driver-preserved c =
    let there : slice_get c.args.drivers c.loop-driver.place ≡ Some c.in-Some.driver.0 = rw c.loop-driver.invariant.count (yielded_at (λ d. d.0) c.args.drivers c.loop-driver.yielded c.in-Some.driver _ _ c.loop-driver.invariant.all c.in-Some.ensures.steps) in
    let reads : List Bool = slice_set (map (lane_values c.args.lanes.now.good c.args.lane) c.args.drivers) c.args.fault.position c.args.fault.value in
    let read : slice_get reads c.loop-driver.place ≡ Some c.read_at-value.result =
    stuck_pin (lane_values c.args.lanes.now.good c.args.lane) c.args.drivers c.args.fault.position c.args.fault.value c.loop-driver.place c.in-Some.driver.0 there
    ∙ ap (λ (b : Bool). Some b) (sym c.read_at-value.ensures) in
    record {
      all = yielded_more (λ d. d.0) c.args.drivers c.loop-driver.yielded c.in-Some.driver _ _ c.loop-driver.invariant.all c.in-Some.ensures.steps;
      count = rw (length-append, c.loop-driver.invariant.count) refl;
      value = c.loop-driver.invariant.value ∙ parity_at reads c.loop-driver.place (c.loop-driver.place + 1) c.read_at-value.result c.loop-driver.value refl read
          ∙ ap (λ (v : Bool). parity v (drop (c.loop-driver.place + 1) reads)) (turned_is c.read_at-value.result c.loop-driver.value);
    }

pub returns : goal.returns
returns c =
    let all : length c.args.drivers ≡ length c.loop-driver.yielded = yielded_all (λ d. d.0) c.args.drivers c.loop-driver.yielded _ c.loop-driver.invariant.all c.in-None.ensures.steps.0 in
    let reads : List Bool = slice_set (map (lane_values c.args.lanes.now.good c.args.lane) c.args.drivers) c.args.fault.position c.args.fault.value in
    sym (c.loop-driver.invariant.value ∙ parity_end reads c.loop-driver.place c.loop-driver.value
    (λ k b e. let within : k < length c.args.drivers = read_within (lane_values c.args.lanes.now.good c.args.lane) c.args.drivers c.args.fault.position c.args.fault.value k b e in omega (arith, all, within, c.loop-driver.invariant.count)))
