use Rattle.std.proofs.Common.{arith, length, sym, ◌<◌, ◌∙◌}
use Rattle.gate_graph.specs.Circuit.{net_of}
use Rattle.implications.proofs.Begins.{answer_some}
use Rattle.implications.proofs.Steps.{works_hold}
use Rattle.implications.proofs.Touching.{fresh_given, pending_touched}
use Rattle.implications.proofs.first_lines.give.Goals as goal
use Rattle.refutation.specs.FactSets.{held_by}
use Rattle.refutation.proofs.Public.{concludes_below}

pub holds-requires : goal.holds-requires
holds-requires c =
    let below : c.in-Some.node.0 < length (net_of c.args.question.now.graph.now).nodes =
    concludes_below (net_of c.args.question.now.graph.now) c.args.question.now.fault (held_by c.args.facts.now) c.requires.ready.formed c.requires.ready.stuck c.args.line c.in-Some.node.0 c.in-Some.fact (answer_some (net_of c.args.question.now.graph.now) c.args.question.now.fault (held_by c.args.facts.now) c.args.line c.args.given (c.in-Some.node, c.in-Some.fact) c.in-Some.is c.requires.given) in
    omega (arith, c.requires.ready.size)

pub add_found-requires-clause-fresh : goal.add_found-requires-clause-fresh
add_found-requires-clause-fresh c =
    fresh_given (net_of c.args.question.now.graph.now) c.args.question.now.fault c.args.facts.now c.args.line c.in-Some.node c.in-Some.fact c.requires.ready.formed c.requires.ready.stuck
    (answer_some (net_of c.args.question.now.graph.now) c.args.question.now.fault (held_by c.args.facts.now) c.args.line c.args.given (c.in-Some.node, c.in-Some.fact) c.in-Some.is c.requires.given) (sym c.holds.ensures ∙ c.if-holds.false)

pub returns-then-branch-clause-works : goal.returns-then-branch-clause-works
returns-then-branch-clause-works c =
    works_hold (net_of c.args.question.now.graph.now) c.args.question.now.fault c.args.facts.now c.args.log.now.lines.items c.add_found.new.facts c.add_found.new.log.lines.items (record { line = c.args.line; node = c.in-Some.node; fact = c.in-Some.fact })
    (answer_some (net_of c.args.question.now.graph.now) c.args.question.now.fault (held_by c.args.facts.now) c.args.line c.args.given (c.in-Some.node, c.in-Some.fact) c.in-Some.is c.requires.given) c.in_ok-add_found.ensures.holds

pub returns-then-branch-clause-pending : goal.returns-then-branch-clause-pending
returns-then-branch-clause-pending c =
    pending_touched (net_of c.args.question.now.graph.now) c.args.question.now.fault c.args.facts.now c.add_found.new.facts c.args.worklist.now c.add_found.new.worklist c.in-Some.node.0 c.in-Some.fact c.in_ok-add_found.ensures.holds.facts c.add_found.ensures.touches

pub returns-clause-works : goal.returns-clause-works
returns-clause-works c =
    works_hold (net_of c.args.question.now.graph.now) c.args.question.now.fault c.args.facts.now c.args.log.now.lines.items c.add_found.new.facts c.add_found.new.log.lines.items (record { line = c.args.line; node = c.in-Some.node; fact = c.in-Some.fact })
    (answer_some (net_of c.args.question.now.graph.now) c.args.question.now.fault (held_by c.args.facts.now) c.args.line c.args.given (c.in-Some.node, c.in-Some.fact) c.in-Some.is c.requires.given) c.in_ok-add_found.ensures.holds

pub returns-clause-pending : goal.returns-clause-pending
returns-clause-pending c =
    pending_touched (net_of c.args.question.now.graph.now) c.args.question.now.fault c.args.facts.now c.add_found.new.facts c.args.worklist.now c.add_found.new.worklist c.in-Some.node.0 c.in-Some.fact c.in_ok-add_found.ensures.holds.facts c.add_found.ensures.touches
