use Rattle.std.proofs.Common.{ap}
use Rattle.gate_graph.specs.Circuit.{Circuit, net_of}
use Rattle.changed_nodes.proofs.Public.{same_back}
use Rattle.rar_loop.proofs.workspace.Workspace.follow_back.Goals as goal

pub follow-requires-2 : goal.follow-requires-2
follow-requires-2 c =
    let f = c.requires in
    record { before = (f.net, (f.tools.refuter, same_back (net_of c.args.self.now.trial.graph) (net_of c.graph-graph.result.now) f.net c.args.self.now.touched.items c.as_slice-2.result.now (ap (λ (v : Circuit). net_of v) c.graph-graph.ensures) c.as_slice-2.ensures.value f.differs.others)) }
