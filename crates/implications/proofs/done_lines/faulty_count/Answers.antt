use Rattle.std.proofs.Common.{List, Option, Bool, Some, ap, map, sym, ◌∙◌}
use Rattle.gate_graph.specs.Circuit.{net_of}
use Rattle.gate_net.specs.Net.{drivers_of}
use Rattle.implications.proofs.Counted.{faulties_counted}
use Rattle.implications.proofs.DoneLines.{count_at_fault, count_elsewhere, stuck_below, stuck_known}
use Rattle.implications.proofs.done_lines.faulty_count.Goals as goal
use Rattle.refutation.specs.FactSets.{held_by}
use Rattle.refutation.specs.Facts.{known_faulty}

pub returns-then-node-question : goal.returns-then-node-question
returns-then-node-question c =
    let faulties : List (Option Bool) = map (known_faulty (held_by c.args.facts.now)) (drivers_of (net_of c.args.question.now.graph.now) c.args.node.0) in
    let f = faulties_counted (held_by c.args.facts.now) c.requires.free c.args.question.now.fault.position (drivers_of (net_of c.args.question.now.graph.now) c.args.node.0) c.args.tally.now c.requires.tally in
    count_elsewhere (net_of c.args.question.now.graph.now) c.args.question.now.fault c.args.facts.now c.requires.ready c.requires.free c.args.node c.args.tally.now c.requires.tally c.count_for-count.result c.args.c c.if-node-question.true (c.count_for-count.ensures.count faulties f.0 f.1.0 f.1.1)

pub known_of-driven-requires : goal.known_of-driven-requires
known_of-driven-requires c = stuck_below (net_of c.args.question.now.graph.now) c.args.question.now.fault c.args.facts.now c.requires.ready c.requires.free c.args.node c.args.tally.now c.requires.tally c.if-node-question.false

pub returns : goal.returns
returns c =
    let faulties : List (Option Bool) = map (known_faulty (held_by c.args.facts.now)) (drivers_of (net_of c.args.question.now.graph.now) c.args.node.0) in
    let f = faulties_counted (held_by c.args.facts.now) c.requires.free c.args.question.now.fault.position (drivers_of (net_of c.args.question.now.graph.now) c.args.node.0) c.args.tally.now c.requires.tally in
    let there = stuck_known (net_of c.args.question.now.graph.now) c.args.question.now.fault c.args.facts.now c.requires.ready c.requires.free c.args.node c.args.tally.now c.requires.tally c.if-node-question.false in
    count_at_fault (net_of c.args.question.now.graph.now) c.args.question.now.fault c.args.facts.now c.requires.ready c.requires.free c.args.node c.args.tally.now c.requires.tally c.with_stuck_pin.result c.args.c c.if-node-question.false
    (c.with_stuck_pin.ensures faulties c.args.question.now.fault.position (c.count_for-count.ensures.count faulties f.0 f.1.0 f.1.1) (there ∙ ap Some (sym c.known_of-driven.ensures)))
