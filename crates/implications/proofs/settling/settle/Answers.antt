use Rattle.std.proofs.Common.{◌∙◌}
use Rattle.gate_graph.specs.Circuit.{net_of}
use Rattle.implications.proofs.Steps.{keeps_join, less_than, not_opposed, settled_keeps, settled_less, settled_smaller, settled_works, settling_join, settling_more, sweeps_none}
use Rattle.implications.proofs.settling.settle.Goals as goal

pub returns-in_err-clash-clause-keeps : goal.returns-in_err-clash-clause-keeps
returns-in_err-clash-clause-keeps c = keeps_join c.args.facts.now c.args.log.now.trail.items c.loop-clash.facts c.loop-clash.log.trail.items c.sweep.new.facts c.sweep.new.log.trail.items c.loop-clash.invariant.state.keeps c.sweep.ensures.keeps

pub returns-in-Some-clause-keeps : goal.returns-in-Some-clause-keeps
returns-in-Some-clause-keeps c = keeps_join c.args.facts.now c.args.log.now.trail.items c.loop-clash.facts c.loop-clash.log.trail.items c.sweep.new.facts c.sweep.new.log.trail.items c.loop-clash.invariant.state.keeps c.sweep.ensures.keeps

pub returns-in_default-next_line-clause-keeps : goal.returns-in_default-next_line-clause-keeps
returns-in_default-next_line-clause-keeps c = keeps_join c.args.facts.now c.args.log.now.trail.items c.loop-clash.facts c.loop-clash.log.trail.items c.sweep.new.facts c.sweep.new.log.trail.items c.loop-clash.invariant.state.keeps c.sweep.ensures.keeps

pub returns-in_err-add_found-clause-keeps : goal.returns-in_err-add_found-clause-keeps
returns-in_err-add_found-clause-keeps c =
    keeps_join c.args.facts.now c.args.log.now.trail.items c.sweep.new.facts c.sweep.new.log.trail.items c.add_found.new.facts c.add_found.new.log.trail.items
    (keeps_join c.args.facts.now c.args.log.now.trail.items c.loop-clash.facts c.loop-clash.log.trail.items c.sweep.new.facts c.sweep.new.log.trail.items c.loop-clash.invariant.state.keeps c.sweep.ensures.keeps)
    c.add_found.ensures.keeps

pub returns-then-branch-clause-works : goal.returns-then-branch-clause-works
returns-then-branch-clause-works c =
    settled_works (net_of c.args.question.now.graph.now) c.args.question.now.fault c.args.facts.now c.args.log.now.lines.items c.args.log.now.trail.items c.args.worklist.now c.sweep.new.facts c.sweep.new.log.lines.items c.sweep.new.log.trail.items c.sweep.new.worklist c.args.node.0
    (settling_join (net_of c.args.question.now.graph.now) c.args.question.now.fault c.args.facts.now c.args.log.now.lines.items c.args.log.now.trail.items c.args.worklist.now c.loop-clash.facts c.loop-clash.log.lines.items c.loop-clash.log.trail.items c.loop-clash.worklist c.sweep.new.facts c.sweep.new.log.lines.items c.sweep.new.log.trail.items c.sweep.new.worklist c.args.node.0 c.loop-clash.invariant.state
    (sweeps_none (net_of c.args.question.now.graph.now) c.args.question.now.fault c.loop-clash.facts c.loop-clash.log.lines.items c.loop-clash.log.trail.items c.loop-clash.worklist c.sweep.new.facts c.sweep.new.log.lines.items c.sweep.new.log.trail.items c.sweep.new.worklist c.args.node.0 c.in_ok-clash.field-0 c.in_default.is c.in_ok-clash.ensures.sweeps))
    c.in-Some-next_line.found c.in-Some-next_line.ensures.next c.add_found.new.facts c.add_found.new.log.lines.items c.add_found.new.log.trail.items c.in_ok-add_found.ensures.holds c.add_found.ensures.keeps

pub returns-then-branch-clause-keeps : goal.returns-then-branch-clause-keeps
returns-then-branch-clause-keeps c =
    settled_keeps (net_of c.args.question.now.graph.now) c.args.question.now.fault c.args.facts.now c.args.log.now.lines.items c.args.log.now.trail.items c.args.worklist.now c.sweep.new.facts c.sweep.new.log.lines.items c.sweep.new.log.trail.items c.sweep.new.worklist c.args.node.0
    (settling_join (net_of c.args.question.now.graph.now) c.args.question.now.fault c.args.facts.now c.args.log.now.lines.items c.args.log.now.trail.items c.args.worklist.now c.loop-clash.facts c.loop-clash.log.lines.items c.loop-clash.log.trail.items c.loop-clash.worklist c.sweep.new.facts c.sweep.new.log.lines.items c.sweep.new.log.trail.items c.sweep.new.worklist c.args.node.0 c.loop-clash.invariant.state
    (sweeps_none (net_of c.args.question.now.graph.now) c.args.question.now.fault c.loop-clash.facts c.loop-clash.log.lines.items c.loop-clash.log.trail.items c.loop-clash.worklist c.sweep.new.facts c.sweep.new.log.lines.items c.sweep.new.log.trail.items c.sweep.new.worklist c.args.node.0 c.in_ok-clash.field-0 c.in_default.is c.in_ok-clash.ensures.sweeps))
    c.in-Some-next_line.found c.in-Some-next_line.ensures.next c.add_found.new.facts c.add_found.new.log.lines.items c.add_found.new.log.trail.items c.in_ok-add_found.ensures.holds c.add_found.ensures.keeps

pub returns-then-branch-clause-less : goal.returns-then-branch-clause-less
returns-then-branch-clause-less c =
    settled_less (net_of c.args.question.now.graph.now) c.args.question.now.fault c.args.facts.now c.args.log.now.lines.items c.args.log.now.trail.items c.args.worklist.now c.sweep.new.facts c.sweep.new.log.lines.items c.sweep.new.log.trail.items c.sweep.new.worklist c.args.node.0
    (settling_join (net_of c.args.question.now.graph.now) c.args.question.now.fault c.args.facts.now c.args.log.now.lines.items c.args.log.now.trail.items c.args.worklist.now c.loop-clash.facts c.loop-clash.log.lines.items c.loop-clash.log.trail.items c.loop-clash.worklist c.sweep.new.facts c.sweep.new.log.lines.items c.sweep.new.log.trail.items c.sweep.new.worklist c.args.node.0 c.loop-clash.invariant.state
    (sweeps_none (net_of c.args.question.now.graph.now) c.args.question.now.fault c.loop-clash.facts c.loop-clash.log.lines.items c.loop-clash.log.trail.items c.loop-clash.worklist c.sweep.new.facts c.sweep.new.log.lines.items c.sweep.new.log.trail.items c.sweep.new.worklist c.args.node.0 c.in_ok-clash.field-0 c.in_default.is c.in_ok-clash.ensures.sweeps))
    c.in-Some-next_line.found c.in-Some-next_line.ensures.next c.add_found.new.facts c.add_found.new.log.lines.items c.add_found.new.log.trail.items c.in_ok-add_found.ensures.holds c.add_found.ensures.keeps
    c.add_found.new.worklist c.add_found.ensures.touches

pub loop-clash-smaller : goal.loop-clash-smaller
loop-clash-smaller c =
    less_than (settled_smaller (net_of c.args.question.now.graph.now) c.args.question.now.fault c.args.facts.now c.args.log.now.lines.items c.args.log.now.trail.items c.args.worklist.now c.sweep.new.facts c.sweep.new.log.lines.items c.sweep.new.log.trail.items c.sweep.new.worklist c.args.node.0
    (settling_join (net_of c.args.question.now.graph.now) c.args.question.now.fault c.args.facts.now c.args.log.now.lines.items c.args.log.now.trail.items c.args.worklist.now c.loop-clash.facts c.loop-clash.log.lines.items c.loop-clash.log.trail.items c.loop-clash.worklist c.sweep.new.facts c.sweep.new.log.lines.items c.sweep.new.log.trail.items c.sweep.new.worklist c.args.node.0 c.loop-clash.invariant.state
    (sweeps_none (net_of c.args.question.now.graph.now) c.args.question.now.fault c.loop-clash.facts c.loop-clash.log.lines.items c.loop-clash.log.trail.items c.loop-clash.worklist c.sweep.new.facts c.sweep.new.log.lines.items c.sweep.new.log.trail.items c.sweep.new.worklist c.args.node.0 c.in_ok-clash.field-0 c.in_default.is c.in_ok-clash.ensures.sweeps))
    c.in-Some-next_line.found c.in-Some-next_line.ensures.next c.add_found.new.facts c.add_found.new.log.lines.items c.add_found.new.log.trail.items c.in_ok-add_found.ensures.holds c.add_found.ensures.keeps
    c.add_found.new.worklist c.add_found.ensures.touches)
    (sweeps_none (net_of c.args.question.now.graph.now) c.args.question.now.fault c.loop-clash.facts c.loop-clash.log.lines.items c.loop-clash.log.trail.items c.loop-clash.worklist c.sweep.new.facts c.sweep.new.log.lines.items c.sweep.new.log.trail.items c.sweep.new.worklist c.args.node.0 c.in_ok-clash.field-0 c.in_default.is c.in_ok-clash.ensures.sweeps).less

pub loop-clash-preserved : goal.loop-clash-preserved
loop-clash-preserved c = record {
  state = settling_more (net_of c.args.question.now.graph.now) c.args.question.now.fault c.args.facts.now c.args.log.now.lines.items c.args.log.now.trail.items c.args.worklist.now c.sweep.new.facts c.sweep.new.log.lines.items c.sweep.new.log.trail.items c.sweep.new.worklist c.args.node.0
      (settling_join (net_of c.args.question.now.graph.now) c.args.question.now.fault c.args.facts.now c.args.log.now.lines.items c.args.log.now.trail.items c.args.worklist.now c.loop-clash.facts c.loop-clash.log.lines.items c.loop-clash.log.trail.items c.loop-clash.worklist c.sweep.new.facts c.sweep.new.log.lines.items c.sweep.new.log.trail.items c.sweep.new.worklist c.args.node.0 c.loop-clash.invariant.state
      (sweeps_none (net_of c.args.question.now.graph.now) c.args.question.now.fault c.loop-clash.facts c.loop-clash.log.lines.items c.loop-clash.log.trail.items c.loop-clash.worklist c.sweep.new.facts c.sweep.new.log.lines.items c.sweep.new.log.trail.items c.sweep.new.worklist c.args.node.0 c.in_ok-clash.field-0 c.in_default.is c.in_ok-clash.ensures.sweeps))
      c.in-Some-next_line.found c.in-Some-next_line.ensures.next c.add_found.new.facts c.add_found.new.log.lines.items c.add_found.new.log.trail.items c.in_ok-add_found.ensures.holds c.add_found.ensures.keeps
      c.add_found.new.worklist c.add_found.ensures.touches (not_opposed c.in_ok-add_found.field-0 c.add_found.new.facts c.in-Some-next_line.found.node.0 c.if-branch.false c.in_ok-add_found.ensures.opposed);
  tallied = c.in_ok-add_found.ensures.tallied;
  room = c.add_found.ensures.room ∙ c.next_line.ensures.room ∙ c.sweep.ensures.room ∙ c.loop-clash.invariant.room;
}
