use Rattle.std.proofs.Common.{[], List, subst, sym, take, ◌+◌}
use Rattle.gate_net.specs.Net.{Node}
use Rattle.cover_decompose.specs.Built.{IsBuilt}
use Rattle.cover_decompose.proofs.Fitting.{start_built}
use Rattle.cover_decompose.proofs.build.build.Goals as goal

pub add_nodes-requires-clause-built : goal.add_nodes-requires-clause-built
add_nodes-requires-clause-built c =
    subst (λ (l : List Node). IsBuilt c.in_ok-graph.graph (take (2 + c.args.sources) l) []) (sym c.made_nodes.ensures)
    (start_built c.in_ok-graph.graph c.args.plan.now.made c.args.sources c.requires.plan c.in_ok-graph.ensures.net c.in_ok-graph.ensures.fanouts c.in_ok-graph.ensures.epoch c.in_ok-graph.ensures.pins c.in_ok-graph.ensures.nodes)
