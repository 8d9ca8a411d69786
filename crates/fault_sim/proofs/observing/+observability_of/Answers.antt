use Rattle.gate_graph.specs.Circuit.{net_of}
use Rattle.fault_sim.proofs.Noting.{one_more_noted}
use Rattle.fault_sim.proofs.observing.+observability_of.Goals as goal

pub returns-in_default-reader_within-clause-right : goal.returns-in_default-reader_within-clause-right
returns-in_default-reader_within-clause-right t c =
    one_more_noted c.args.notes.now c.note.new.self (net_of c.args.graph.now) c.args.words.now c.args.node.0 c.spread_opposite-word.result c.note.ensures c.requires.right c.spread_opposite-word.ensures.observability

pub returns-clause-right : goal.returns-clause-right
returns-clause-right t c =
    one_more_noted c.observability_of-seen.new.notes c.note-2.new.self (net_of c.args.graph.now) c.args.words.now c.args.node.0 c.observability_before-word.result c.note-2.ensures c.observability_of-seen.ensures.right c.observability_before-word.ensures.observability
