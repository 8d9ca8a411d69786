use Rattle.gate_graph.specs.Circuit.{net_of}
use Rattle.implications.proofs.Begins.{gives_none, has_first, on_chain_stays, outside_stays}
use Rattle.implications.proofs.Closes.{closes_ok}
use Rattle.implications.proofs.Steps.{keeps_join}
use Rattle.implications.proofs.closing.add_all_lines.Goals as goal
use Rattle.implications.specs.Inner.Beginning.{AreDoneAtFault, AreDoneOnChain}

pub returns-in_err-clash-2-clause-keeps : goal.returns-in_err-clash-2-clause-keeps
returns-in_err-clash-2-clause-keeps c = keeps_join c.args.facts.now c.args.log.now.trail.items c.give_on_chain.new.facts c.give_on_chain.new.log.trail.items c.give_at_fault.new.facts c.give_at_fault.new.log.trail.items c.give_on_chain.ensures.keeps c.give_at_fault.ensures.keeps

pub returns-in-Some-2-clause-keeps : goal.returns-in-Some-2-clause-keeps
returns-in-Some-2-clause-keeps c = keeps_join c.args.facts.now c.args.log.now.trail.items c.give_on_chain.new.facts c.give_on_chain.new.log.trail.items c.give_at_fault.new.facts c.give_at_fault.new.log.trail.items c.give_on_chain.ensures.keeps c.give_at_fault.ensures.keeps

pub returns-clause-keeps : goal.returns-clause-keeps
returns-clause-keeps c =
    keeps_join c.args.facts.now c.args.log.now.trail.items c.give_at_fault.new.facts c.give_at_fault.new.log.trail.items c.work_off.new.facts c.work_off.new.log.trail.items
    (keeps_join c.args.facts.now c.args.log.now.trail.items c.give_on_chain.new.facts c.give_on_chain.new.log.trail.items c.give_at_fault.new.facts c.give_at_fault.new.log.trail.items c.give_on_chain.ensures.keeps c.give_at_fault.ensures.keeps) c.work_off.ensures.keeps

pub work_off-requires-clause-pending : goal.work_off-requires-clause-pending
work_off-requires-clause-pending c = c.in_ok-clash-2.ensures.pending (c.in_ok-clash.ensures.pending c.requires.pending)

pub returns-clause-closes : goal.returns-clause-closes
returns-clause-closes c =
    let one = gives_none c.give_on_chain.new.facts (AreDoneOnChain (net_of c.args.question.now.graph.now) c.args.question.now.fault c.give_on_chain.new.facts) c.in_ok-clash.field-0 c.in_default.is c.in_ok-clash.ensures.gives in
    let two = gives_none c.give_at_fault.new.facts (AreDoneAtFault (net_of c.args.question.now.graph.now) c.args.question.now.fault c.give_at_fault.new.facts) c.in_ok-clash-2.field-0 c.in_default-2.is c.in_ok-clash-2.ensures.gives in
    closes_ok (net_of c.args.question.now.graph.now) c.args.question.now.fault c.give_at_fault.new.facts c.work_off.new.facts c.work_off.result
    (has_first (net_of c.args.question.now.graph.now) c.args.question.now.fault c.give_at_fault.new.facts two.1 (on_chain_stays (net_of c.args.question.now.graph.now) c.args.question.now.fault c.give_on_chain.new.facts c.give_at_fault.new.facts c.give_at_fault.ensures.keeps.more one.1)
    (outside_stays (net_of c.args.question.now.graph.now) c.args.question.now.fault c.args.facts.now c.give_at_fault.new.facts (λ x fact e. c.give_at_fault.ensures.keeps.more x fact (c.give_on_chain.ensures.keeps.more x fact e)) c.requires.outside))
    c.work_off.ensures.keeps.more c.work_off.ensures.ending
