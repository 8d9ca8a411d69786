use Rattle.std.proofs.Common.{arith, length, ◌∙◌, ◌≤◌}
use Rattle.gate_graph.specs.Circuit.{net_of}
use Rattle.implications.proofs.Begins.{gives_none, outside_ends, outside_more}
use Rattle.implications.proofs.Steps.{keeps_join}
use Rattle.implications.proofs.first_lines.give_outside.Goals as goal
use Rattle.implications.specs.Beginning.{node_of}
use Rattle.implications.specs.Inner.Settled.{IsDone}
use Rattle.refutation.specs.FactSets.{held_by}
use Rattle.refutation.specs.declared.reasoning.Line.TheVariants.{Out}

pub give-requires-clause-given : goal.give-requires-clause-given
give-requires-clause-given c = c.line_out_marked-given.ensures (held_by c.loop-number.facts)

pub returns-in_err-clash-clause-keeps : goal.returns-in_err-clash-clause-keeps
returns-in_err-clash-clause-keeps c = keeps_join c.args.facts.now c.args.log.now.trail.items c.loop-number.facts c.loop-number.log.trail.items c.give.new.facts c.give.new.log.trail.items c.loop-number.invariant.0.keeps c.give.ensures.keeps

pub returns-in-Some-clause-keeps : goal.returns-in-Some-clause-keeps
returns-in-Some-clause-keeps c = keeps_join c.args.facts.now c.args.log.now.trail.items c.loop-number.facts c.loop-number.log.trail.items c.give.new.facts c.give.new.log.trail.items c.loop-number.invariant.0.keeps c.give.ensures.keeps

pub loop-number-preserved : goal.loop-number-preserved
loop-number-preserved c =
    let given = gives_none c.give.new.facts (IsDone (net_of c.args.question.now.graph.now) c.args.question.now.fault c.give.new.facts (Out (node_of c.loop-number.number))) c.in_ok-clash.field-0 c.in_default.is c.in_ok-clash.ensures.gives in (
      outside_more (net_of c.args.question.now.graph.now) c.args.question.now.fault c.loop-number.number c.args.facts.now c.args.log.now.lines.items c.args.log.now.trail.items c.loop-number.facts c.loop-number.log.lines.items c.loop-number.log.trail.items c.give.new.facts c.give.new.log.lines.items c.give.new.log.trail.items c.loop-number.invariant.0
          c.in_ok-clash.ensures.works c.give.ensures.keeps given.0 given.1,
      record { tallied = c.in_ok-clash.ensures.tallied; size = c.give.ensures.size ∙ c.loop-number.invariant.1.size; room = c.give.ensures.room ∙ c.loop-number.invariant.1.room },
    )

pub returns-clause-gives : goal.returns-clause-gives
returns-clause-gives c =
    let all : length (net_of c.args.question.now.graph.now).nodes ≤ c.loop-number.number = omega (arith, c.loop-number-test.false, c.node_bound-number-end.ensures) in
    (c.loop-number.invariant.0.free, outside_ends (net_of c.args.question.now.graph.now) c.args.question.now.fault c.loop-number.number c.args.facts.now c.args.log.now.lines.items c.args.log.now.trail.items c.loop-number.facts c.loop-number.log.lines.items c.loop-number.log.trail.items c.loop-number.invariant.0 all)
