use Rattle.gate_graph.specs.Circuit.{net_of}
use Rattle.cover_decompose.specs.Decomposition.{net_of_model}
use Rattle.step_replay.proofs.Leading.{rebuilt}
use Rattle.step_replay.proofs.Makeable.{accepted_part}
use Rattle.step_replay.proofs.rebuilding.rebuild.Goals as goal

pub last_net-requires-clause-run : goal.last_net-requires-clause-run
last_net-requires-clause-run c = accepted_part (net_of_model c.args.model.now) c.args.steps.now c.in_ok-taken.taken c.requires.run

pub returns : goal.returns
returns c = record {
  rebuilt = rebuilt c.runs_join.ensures c.accepted_runs_keep.ensures c.order_tells.ensures.next c.tidying_leads.ensures.keeps c.args.model.now c.args.steps.now c.in_ok-taken.taken (net_of c.in_ok-graph.graph)
      (c.decompositions_are_formed.ensures.formed c.args.model.now) (c.decompositions_stand.ensures.wires c.args.model.now c.requires.formed c.requires.ranked) c.requires.run c.in_ok-taken.ensures c.in_ok-graph.ensures;
}
