use Rattle.gate_graph.specs.Circuit.{net_of}
use Rattle.fault_sim.proofs.Detection.{live_within, opposite_seen}
use Rattle.fault_sim.proofs.observing.spread_opposite.Goals as goal
use Rattle.rm_base.specs.Numbers.{numbers_of}

pub bounds-good-node : goal.bounds-good-node
bounds-good-node c = live_within (net_of c.args.graph.now) (numbers_of c.args.order.now) c.args.places.now c.args.good.now c.args.spread.now c.args.node.0 c.requires.order c.requires.lanes c.requires.live

pub returns-clause-observability : goal.returns-clause-observability
returns-clause-observability c i h = opposite_seen (net_of c.args.graph.now) c.args.words.now c.args.good.now c.requires.values c.well_formed-2.ensures.net.acyclic c.args.node.0 c.seen_from.result c.seen_from.ensures.seen i h
