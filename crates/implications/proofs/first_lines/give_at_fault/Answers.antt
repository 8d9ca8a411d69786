use Rattle.gate_graph.specs.Circuit.{net_of}
use Rattle.implications.proofs.Closes.{works_ok}
use Rattle.implications.proofs.Steps.{keeps_join}
use Rattle.implications.specs.Inner.Beginning.{StaysPending}
use Rattle.implications.proofs.first_lines.give_at_fault.Goals as goal
use Rattle.refutation.specs.FactSets.{held_by}

pub give-requires-clause-given : goal.give-requires-clause-given
give-requires-clause-given c = c.line_act-given.ensures (held_by c.args.facts.now)

pub give-requires-2-clause-given : goal.give-requires-2-clause-given
give-requires-2-clause-given c = c.line_site-given.ensures (net_of c.args.question.now.graph.now) (held_by c.give.new.facts)

pub returns-clause-keeps : goal.returns-clause-keeps
returns-clause-keeps c = keeps_join c.args.facts.now c.args.log.now.trail.items c.give.new.facts c.give.new.log.trail.items c.give-2.new.facts c.give-2.new.log.trail.items c.give.ensures.keeps c.give-2.ensures.keeps

pub returns-clause-pending : goal.returns-clause-pending
returns-clause-pending c =
    works_ok (StaysPending (net_of c.args.question.now.graph.now) c.args.question.now.fault c.give.new.facts c.give.new.worklist c.give-2.new.facts c.give-2.new.worklist) (StaysPending (net_of c.args.question.now.graph.now) c.args.question.now.fault c.args.facts.now c.args.worklist.now c.give-2.new.facts c.give-2.new.worklist) c.give-2.result
    (λ after pending. after (c.in_ok-clash.ensures.pending pending)) c.give-2.ensures.pending
