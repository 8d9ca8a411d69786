use Rattle.std.proofs.Common.{◌≤◌, subst}
use Rattle.rm_model.specs.declared.parts.Model.{Model}
use Rattle.cover_decompose.specs.Built.{IsBuilt}
use Rattle.cover_decompose.specs.Count.{decomposed}
use Rattle.cover_decompose.specs.Decomposition.{last_state, net_of_model}
use Rattle.cover_decompose.proofs.Whole.{IsWhole, few_live, whole}
use Rattle.cover_decompose.proofs.model_graph.decompose.Goals as goal

pub returns : goal.returns
returns c =
    let built : IsBuilt c.in_ok-graph.graph (last_state c.args.model.now).made (net_of_model c.args.model.now).observed = subst (λ (m : Model). IsBuilt c.in_ok-graph.graph (last_state m).made (net_of_model m).observed) c.model.ensures c.in_ok-graph.ensures.built in
    let within : decomposed c.args.model.now ≤ 65536 = subst (λ (m : Model). decomposed m ≤ 65536) c.model.ensures c.in_ok-graph.ensures.within in
    let is : IsWhole c.args.model.now c.in_ok-graph.graph = whole c.args.model.now c.in_ok-graph.graph (c.decompositions_stand.ensures.wires c.args.model.now c.requires.formed c.requires.ranked) built in
    record { net = is.net; fanouts = is.fanouts; pins = is.pins; held = is.held; nodes = is.nodes; few = few_live c.args.model.now c.in_ok-graph.graph c.requires.sources (c.decompositions_stand.ensures.wires c.args.model.now c.requires.formed c.requires.ranked) within built; epoch = is.epoch; within = within; refused = tt }
