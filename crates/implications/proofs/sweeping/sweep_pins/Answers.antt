use Rattle.std.proofs.Common.{Some, ap, arith, length, length-append, refl, sym, ◌∙◌, ◌≡◌, ◌≤◌}
use Rattle.std.specs.Prelude.{slice_get}
use Rattle.gate_graph.specs.Circuit.{net_of}
use Rattle.gate_net.specs.Net.{drivers_of}
use Rattle.implications.proofs.Steps.{keeps_join, settling_join, stops_join, sweeps_none, sweeps_some}
use Rattle.implications.proofs.sweeping.sweep_pins.Goals as goal
use Rattle.refutation.proofs.Public.{yielded_at, yielded_more}
use Rattle.rm_base.specs.declared.numbers.NodeId.{NodeId}

pub sweep_pin-requires-clause-ready : goal.sweep_pin-requires-clause-ready
sweep_pin-requires-clause-ready c =
    let same : length c.loop-driver.facts ≡ length c.args.facts.now = c.loop-driver.invariant.state.keeps.size in
    let size : length (net_of c.args.question.now.graph.now).nodes ≤ length c.args.facts.now = c.requires.ready.size in
    record { formed = c.requires.ready.formed; stuck = c.requires.ready.stuck; size = omega arith }

pub sweep_pin-requires-clause-reads : goal.sweep_pin-requires-clause-reads
sweep_pin-requires-clause-reads c =
    let at : slice_get c.into_iter-driver-iterator.result (length c.loop-driver.yielded) ≡ Some c.in-Some.driver.0 = yielded_at (λ (d : NodeId). d.0) c.into_iter-driver-iterator.result c.loop-driver.yielded c.in-Some.driver _ _ c.loop-driver.invariant.all c.in-Some.ensures.steps in
    ap (λ n. slice_get (drivers_of (net_of c.args.question.now.graph.now) c.args.node.0) n) c.loop-driver.invariant.count ∙ ap (λ ds. slice_get ds (length c.loop-driver.yielded)) (sym (c.into_iter-driver-iterator.ensures.into_iter_gives ∙ c.gate_pins-driver-items.ensures.drivers)) ∙ at

pub returns-in_err-clash-clause-keeps : goal.returns-in_err-clash-clause-keeps
returns-in_err-clash-clause-keeps c = keeps_join c.args.facts.now c.args.log.now.trail.items c.loop-driver.facts c.loop-driver.log.trail.items c.sweep_pin.new.facts c.sweep_pin.new.log.trail.items c.loop-driver.invariant.state.keeps c.sweep_pin.ensures.keeps

pub returns-in-Some-2-clause-keeps : goal.returns-in-Some-2-clause-keeps
returns-in-Some-2-clause-keeps c = keeps_join c.args.facts.now c.args.log.now.trail.items c.loop-driver.facts c.loop-driver.log.trail.items c.sweep_pin.new.facts c.sweep_pin.new.log.trail.items c.loop-driver.invariant.state.keeps c.sweep_pin.ensures.keeps

pub returns-in-Some-2-clause-sweeps : goal.returns-in-Some-2-clause-sweeps
returns-in-Some-2-clause-sweeps c =
    stops_join (net_of c.args.question.now.graph.now) c.args.question.now.fault c.args.facts.now c.args.log.now.lines.items c.args.log.now.trail.items c.args.worklist.now c.loop-driver.facts c.loop-driver.log.lines.items c.loop-driver.log.trail.items c.loop-driver.worklist c.sweep_pin.new.facts c.sweep_pin.new.log.lines.items c.sweep_pin.new.log.trail.items c.sweep_pin.new.worklist c.args.node.0 c.loop-driver.invariant.state c.in-Some-2.clash.0
    (sweeps_some (net_of c.args.question.now.graph.now) c.args.question.now.fault c.loop-driver.facts c.loop-driver.log.lines.items c.loop-driver.log.trail.items c.loop-driver.worklist c.sweep_pin.new.facts c.sweep_pin.new.log.lines.items c.sweep_pin.new.log.trail.items c.sweep_pin.new.worklist c.args.node.0 c.in_ok-clash.field-0 c.in-Some-2.clash c.in-Some-2.is c.in_ok-clash.ensures.sweeps)

pub loop-driver-preserved : goal.loop-driver-preserved
loop-driver-preserved c = record {
  all = yielded_more (λ (d : NodeId). d.0) c.into_iter-driver-iterator.result c.loop-driver.yielded c.in-Some.driver _ _ c.loop-driver.invariant.all c.in-Some.ensures.steps;
  count = rw (length-append, c.loop-driver.invariant.count) refl;
  state = settling_join (net_of c.args.question.now.graph.now) c.args.question.now.fault c.args.facts.now c.args.log.now.lines.items c.args.log.now.trail.items c.args.worklist.now c.loop-driver.facts c.loop-driver.log.lines.items c.loop-driver.log.trail.items c.loop-driver.worklist c.sweep_pin.new.facts c.sweep_pin.new.log.lines.items c.sweep_pin.new.log.trail.items c.sweep_pin.new.worklist c.args.node.0 c.loop-driver.invariant.state
      (sweeps_none (net_of c.args.question.now.graph.now) c.args.question.now.fault c.loop-driver.facts c.loop-driver.log.lines.items c.loop-driver.log.trail.items c.loop-driver.worklist c.sweep_pin.new.facts c.sweep_pin.new.log.lines.items c.sweep_pin.new.log.trail.items c.sweep_pin.new.worklist c.args.node.0 c.in_ok-clash.field-0 c.in_default.is c.in_ok-clash.ensures.sweeps);
  tallied = c.in_ok-clash.ensures.tallied;
  room = c.sweep_pin.ensures.room ∙ c.loop-driver.invariant.room;
}
