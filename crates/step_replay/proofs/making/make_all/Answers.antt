use Rattle.std.proofs.Common.{◌∙◌, drop, refl, ap, arith}
use Rattle.gate_net.specs.Net.{wire_count}
use Rattle.gate_graph.specs.Circuit.{net_of}
use Rattle.step_replay.proofs.Looping.{on_first, one_more}
use Rattle.step_replay.proofs.Readying.{makeable_small}
use Rattle.step_replay.proofs.making.make_all.Goals as goal

pub loop-step-init : goal.loop-step-init
loop-step-init c = record {
  ready = c.requires.ready;
  made = refl;
  on = on_first (net_of c.args.trial.now.graph) c.args.steps.now _ c.requires.makeable refl (c.wire_count.ensures ∙ ap (λ g. wire_count (net_of g)) c.graph.ensures);
}

pub make_next-requires-clause-small : goal.make_next-requires-clause-small
make_next-requires-clause-small c = makeable_small (net_of c.loop-step.trial.graph) (drop c.loop-step.step-index c.args.steps.now) c.loop-step.invariant.on.makeable

pub loop-step-preserved : goal.loop-step-preserved
loop-step-preserved c = record {
  ready = c.in_ok-left.ensures.ready;
  made = omega (arith, c.loop-step.invariant.made);
  on = one_more (net_of c.args.trial.now.graph) (net_of c.loop-step.trial.graph) (net_of c.make_next.new.trial.graph) c.args.steps.now c.loop-step.step-index _ c.loop-step.best _ c.loop-step-test.true c.loop-step.invariant.on c.in_ok-left.ensures.net
      (omega (arith, c.loop-step.invariant.made)) (c.wire_count-in-loop-step.ensures ∙ ap (λ g. wire_count (net_of g)) c.graph-in-loop-step.ensures) c.better-best.result c.better-best.ensures.later c.better-best.ensures.best;
}
