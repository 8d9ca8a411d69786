use Rattle.gate_graph.specs.Circuit.{net_of}
use Rattle.fault_sim.proofs.Chaining.{chain_dark, chain_lanes}
use Rattle.fault_sim.proofs.ReadInOrder.{reader_not_dead}
use Rattle.fault_sim.proofs.observing.observability_before.Goals as goal

pub changed_in-requires-clause-node : goal.changed_in-requires-clause-node
changed_in-requires-clause-node c = c.well_formed-2.ensures.net.drivers_live c.args.reader.0 c.requires.only.reads.0 c.args.node.0 c.requires.only.reads.1

pub changed_in-requires-clause-reader : goal.changed_in-requires-clause-reader
changed_in-requires-clause-reader c = reader_not_dead (net_of c.args.graph.now) c.args.reader.0 c.requires.only.reads.0 c.args.node.0 c.requires.only.reads.1

pub returns-then-seen-eq0-clause-observability : goal.returns-then-seen-eq0-clause-observability
returns-then-seen-eq0-clause-observability c =
    chain_dark (net_of c.args.graph.now) c.args.words.now c.args.good.now c.well_formed-2.ensures.net.acyclic c.args.node.0 c.args.reader.0 c.requires.unobserved c.requires.only c.requires.values c.args.seen c.requires.seen c.if-seen-eq0.true

pub returns-clause-observability : goal.returns-clause-observability
returns-clause-observability c =
    rw c.changed_in.ensures.changed
    (chain_lanes (net_of c.args.graph.now) c.args.words.now c.args.good.now c.well_formed-2.ensures.net.acyclic c.args.node.0 c.args.reader.0 c.requires.unobserved c.requires.only c.requires.values c.args.seen c.requires.seen)
