use Rattle.gate_graph.specs.Circuit.{live_nodes}
use Rattle.joined_nets.proofs.Fitness.{small_model}
use Rattle.joined_nets.proofs.decomposing.ordered_decomposition.Goals as goal

pub returns-clause-order : goal.returns-clause-order
returns-clause-order c = record { no_gaps = c.decompositions_are_formed.ensures.no_gaps c.args.model.now; order = c.decompositions_are_formed.ensures.order c.args.model.now }

pub returns-clause-small : goal.returns-clause-small
returns-clause-small c =
    small_model c.decompositions_stand.ensures.stands c.decompositions_stand.ensures.wires c.args.model.now (live_nodes c.in_ok-graph.graph) c.requires.ready c.in_ok-graph.ensures.within c.in_ok-graph.ensures.nodes c.in_ok-graph.ensures.few
