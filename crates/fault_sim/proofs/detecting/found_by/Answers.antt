use Rattle.gate_graph.specs.Circuit.{net_of}
use Rattle.fault_sim.proofs.Detection.{detected_where_seen, gate_live, gate_reads, gate_within, never_detected}
use Rattle.fault_sim.proofs.detecting.found_by.Goals as goal
use Rattle.rm_base.specs.Numbers.{numbers_of}

pub read_stuck-word-requires-clause-drivers : goal.read_stuck-word-requires-clause-drivers
read_stuck-word-requires-clause-drivers c =
    gate_reads (net_of c.args.question.now.graph.now) c.args.question.now.fault (numbers_of c.args.order.now) c.args.places.now c.args.good.now c.args.spread.now c.well_formed-2.ensures.net c.requires.order c.requires.lanes c.args.question.now.pin

pub bounds-good-gate : goal.bounds-good-gate
bounds-good-gate c = gate_within (net_of c.args.question.now.graph.now) c.args.question.now.fault (numbers_of c.args.order.now) c.args.places.now c.args.good.now c.args.spread.now c.requires.order c.requires.lanes c.args.question.now.pin

pub seen_from-requires-clause-live : goal.seen_from-requires-clause-live
seen_from-requires-clause-live c = gate_live (net_of c.args.question.now.graph.now) c.args.question.now.fault c.args.question.now.pin

pub returns-then-word-good-clause-detects : goal.returns-then-word-good-clause-detects
returns-then-word-good-clause-detects c i h =
    never_detected (net_of c.args.question.now.graph.now) c.args.question.now.fault c.args.words.now c.args.good.now c.well_formed-2.ensures.net.acyclic c.requires.values c.read_stuck-word.result c.read_stuck-word.ensures c.if-word-good.true i h

pub returns-clause-detects : goal.returns-clause-detects
returns-clause-detects c i h =
    detected_where_seen (net_of c.args.question.now.graph.now) c.args.question.now.fault c.args.words.now c.args.good.now c.well_formed-2.ensures.net.acyclic c.requires.values c.read_stuck-word.result c.read_stuck-word.ensures c.seen_from.result c.seen_from.ensures.seen i h
