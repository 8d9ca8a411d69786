use Rattle.std.proofs.Common.{◌∙◌}
use Rattle.gate_graph.specs.Circuit.{net_of}
use Rattle.implications.proofs.Steps.{keeps_join, not_opposed, settled_less, settled_smaller, settled_works, settling_more}
use Rattle.implications.proofs.sweeping.sweep_pin.Goals as goal

pub returns-in_err-add_found-clause-keeps : goal.returns-in_err-add_found-clause-keeps
returns-in_err-add_found-clause-keeps c = keeps_join c.args.facts.now c.args.log.now.trail.items c.loop-found.facts c.loop-found.log.trail.items c.add_found.new.facts c.add_found.new.log.trail.items c.loop-found.invariant.state.keeps c.add_found.ensures.keeps

pub returns-then-branch-clause-sweeps : goal.returns-then-branch-clause-sweeps
returns-then-branch-clause-sweeps c = record {
  works = settled_works (net_of c.args.question.now.graph.now) c.args.question.now.fault c.args.facts.now c.args.log.now.lines.items c.args.log.now.trail.items c.args.worklist.now c.loop-found.facts c.loop-found.log.lines.items c.loop-found.log.trail.items c.loop-found.worklist c.args.node.0 c.loop-found.invariant.state c.in-Some.found c.in-Some.ensures c.add_found.new.facts c.add_found.new.log.lines.items c.add_found.new.log.trail.items c.in_ok-add_found.ensures.holds c.add_found.ensures.keeps;
  less = settled_less (net_of c.args.question.now.graph.now) c.args.question.now.fault c.args.facts.now c.args.log.now.lines.items c.args.log.now.trail.items c.args.worklist.now c.loop-found.facts c.loop-found.log.lines.items c.loop-found.log.trail.items c.loop-found.worklist c.args.node.0 c.loop-found.invariant.state c.in-Some.found c.in-Some.ensures c.add_found.new.facts c.add_found.new.log.lines.items c.add_found.new.log.trail.items c.in_ok-add_found.ensures.holds c.add_found.ensures.keeps c.add_found.new.worklist c.add_found.ensures.touches;
  opposed = c.in_ok-add_found.ensures.opposed.0 c.if-branch.true;
}

pub returns-then-branch-clause-keeps : goal.returns-then-branch-clause-keeps
returns-then-branch-clause-keeps c = keeps_join c.args.facts.now c.args.log.now.trail.items c.loop-found.facts c.loop-found.log.trail.items c.add_found.new.facts c.add_found.new.log.trail.items c.loop-found.invariant.state.keeps c.add_found.ensures.keeps

pub loop-found-smaller : goal.loop-found-smaller
loop-found-smaller c = settled_smaller (net_of c.args.question.now.graph.now) c.args.question.now.fault c.args.facts.now c.args.log.now.lines.items c.args.log.now.trail.items c.args.worklist.now c.loop-found.facts c.loop-found.log.lines.items c.loop-found.log.trail.items c.loop-found.worklist c.args.node.0 c.loop-found.invariant.state c.in-Some.found c.in-Some.ensures c.add_found.new.facts c.add_found.new.log.lines.items c.add_found.new.log.trail.items c.in_ok-add_found.ensures.holds c.add_found.ensures.keeps c.add_found.new.worklist c.add_found.ensures.touches

pub loop-found-preserved : goal.loop-found-preserved
loop-found-preserved c = record {
  state = settling_more (net_of c.args.question.now.graph.now) c.args.question.now.fault c.args.facts.now c.args.log.now.lines.items c.args.log.now.trail.items c.args.worklist.now c.loop-found.facts c.loop-found.log.lines.items c.loop-found.log.trail.items c.loop-found.worklist c.args.node.0 c.loop-found.invariant.state c.in-Some.found c.in-Some.ensures c.add_found.new.facts c.add_found.new.log.lines.items c.add_found.new.log.trail.items c.in_ok-add_found.ensures.holds c.add_found.ensures.keeps c.add_found.new.worklist c.add_found.ensures.touches (not_opposed c.in_ok-add_found.field-0 c.add_found.new.facts c.in-Some.found.node.0 c.if-branch.false c.in_ok-add_found.ensures.opposed);
  tallied = c.in_ok-add_found.ensures.tallied;
  room = c.add_found.ensures.room ∙ c.loop-found.invariant.room;
}
