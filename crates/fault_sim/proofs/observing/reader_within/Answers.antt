use Rattle.gate_graph.specs.Circuit.{net_of}
use Rattle.gate_net.proofs.Public.{node_live}
use Rattle.fault_sim.proofs.observing.reader_within.Goals as goal

pub next_in_chain-requires : goal.next_in_chain-requires
next_in_chain-requires c = node_live (net_of c.args.graph.now) c.args.node.0 c.requires.live
