use Rattle.care_opt.proofs.GatingAnds.{node_step}
use Rattle.care_opt.proofs.gating.seen_nodes.Goals as goal
use Rattle.gate_graph.specs.Circuit.{net_of}

pub loop-node-preserved : goal.loop-node-preserved
loop-node-preserved c = node_step c.loop-node.nodes.items c.push.new.self.items c.loop-node.node-iterator c.next.new.self (net_of c.args.graph.now).observed c.in-Some.node c.in_ok-push.ensures.items c.in-Some.ensures.steps c.loop-node.invariant
