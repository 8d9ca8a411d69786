use Rattle.gate_graph.specs.Circuit.{net_of}
use Rattle.implications.proofs.Closes.{extended_ok, fewer_ok, good_free, good_pending, unknown_good}
use Rattle.implications.proofs.Steps.{keeps_hold, keeps_join, tallied_by, tallied_none}
use Rattle.implications.proofs.extending.add_good.Goals as goal
use Rattle.refutation.specs.FactSets.{held_by}
use Rattle.refutation.specs.declared.reasoning.Fact.TheVariants.{Good}

pub touch-requires-clause-new : goal.touch-requires-clause-new
touch-requires-clause-new c = unknown_good c.args.facts.now c.args.node.0 c.args.value c.requires.free c.requires.unknown

pub touch-requires-clause-tallied : goal.touch-requires-clause-tallied
touch-requires-clause-tallied c = tallied_none (net_of c.args.question.now.graph.now) (held_by c.args.facts.now) c.args.question.now.fault.position c.args.tallies.now c.requires.uncounted

pub work_off-requires-clause-tallied : goal.work_off-requires-clause-tallied
work_off-requires-clause-tallied c = tallied_by (net_of c.args.question.now.graph.now) c.args.facts.now c.insert.new.self c.args.node.0 (Good c.args.value) c.args.question.now.fault.position c.touch.new.tallies c.insert.ensures.facts c.touch.ensures.tallied

pub work_off-requires-clause-pending : goal.work_off-requires-clause-pending
work_off-requires-clause-pending c = good_pending (net_of c.args.question.now.graph.now) c.args.question.now.fault c.args.facts.now c.insert.new.self c.args.worklist.now c.touch.new.worklist c.args.node.0 (Good c.args.value) c.requires.closed c.insert.ensures.facts c.touch.ensures.touches

pub work_off-requires-clause-free : goal.work_off-requires-clause-free
work_off-requires-clause-free c = good_free c.args.facts.now c.insert.new.self c.args.node.0 c.args.value c.requires.free c.requires.unknown c.insert.ensures.facts

pub returns-clause-extended : goal.returns-clause-extended
returns-clause-extended c =
    extended_ok (net_of c.args.question.now.graph.now) c.args.question.now.fault c.args.facts.now c.insert.new.self c.work_off.new.facts c.args.log.now.lines.items c.work_off.new.log.lines.items c.args.node.0 (Good c.args.value) c.work_off.result c.requires.lines c.requires.closed c.insert.ensures.facts c.work_off.ensures.works c.work_off.ensures.keeps.more c.work_off.ensures.ending

pub returns-clause-fewer : goal.returns-clause-fewer
returns-clause-fewer c =
    fewer_ok (net_of c.args.question.now.graph.now) c.args.question.now.fault c.args.facts.now c.insert.new.self c.work_off.new.facts c.args.log.now.lines.items c.work_off.new.log.lines.items c.work_off.result (c.insert.ensures.missing (unknown_good c.args.facts.now c.args.node.0 c.args.value c.requires.free c.requires.unknown)) c.work_off.ensures.works

pub returns-clause-keeps : goal.returns-clause-keeps
returns-clause-keeps c =
    keeps_join c.args.facts.now c.args.log.now.trail.items c.insert.new.self c.push.new.self.items c.work_off.new.facts c.work_off.new.log.trail.items
    (keeps_hold c.args.facts.now c.args.log.now.trail.items c.insert.new.self c.push.new.self.items c.args.node (Good c.args.value) (unknown_good c.args.facts.now c.args.node.0 c.args.value c.requires.free c.requires.unknown) c.insert.ensures.facts c.in_ok-push.ensures.items)
    c.work_off.ensures.keeps
