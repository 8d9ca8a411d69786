use Rattle.std.proofs.Common.{◌≡◌, subst, sym}
use Rattle.rm_model.specs.WellFormed.{IsWellFormed}
use Rattle.rm_model.specs.declared.parts.Model.{Model}
use Rattle.gate_graph.specs.Circuit.{net_of}
use Rattle.graph_to_model.specs.Fits.{Fits}
use Rattle.graph_to_model.specs.Laws.{AreFew}
use Rattle.graph_to_model.specs.NetModel.{model_of_net}
use Rattle.sewing.specs.Laws.{IsReplacement}
use Rattle.window_parts.specs.Inner.Laws.{IsDecomposed}
use Rattle.window_parts.proofs.replaying.replayed.Goals as goal

pub model_of_tidy-requires-clause-formed : goal.model_of_tidy-requires-clause-formed
model_of_tidy-requires-clause-formed c = subst (λ (m : Model). IsWellFormed m) (sym c.model.ensures) c.requires.ready.formed

pub model_of_tidy-requires-clause-fits : goal.model_of_tidy-requires-clause-fits
model_of_tidy-requires-clause-fits c =
    let parts : IsDecomposed c.args.model.now = record {
      formed = c.decompositions_are_formed.ensures.formed c.args.model.now;
      stands = c.decompositions_stand.ensures.stands c.args.model.now c.requires.ready.formed c.requires.ready.ranks;
      points = c.decompositions_stand.ensures.points c.args.model.now c.requires.ready.formed c.requires.ready.ranks;
    } in
    subst (λ (m : Model). Fits (net_of c.in_ok-rebuilt.rebuilt.graph) m) (sym c.model.ensures)
    (c.rebuilt_nets_fit.ensures c.args.model.now c.args.steps.now c.in_ok-rebuilt.rebuilt.taken (net_of c.in_ok-rebuilt.rebuilt.graph) parts c.in_ok-rebuilt.ensures.rebuilt)

pub returns-clause-comes : goal.returns-clause-comes
returns-clause-comes c = record {
  count = c.in_ok-rebuilt.rebuilt.taken;
  net = net_of c.in_ok-rebuilt.rebuilt.graph;
  rebuilt = c.in_ok-rebuilt.ensures.rebuilt;
  made = subst (λ (m : Model). c.in_ok-part.part ≡ model_of_net m (net_of c.in_ok-rebuilt.rebuilt.graph)) c.model.ensures c.in_ok-part.ensures.model;
}

pub returns-clause-replacement : goal.returns-clause-replacement
returns-clause-replacement c =
    let parts : IsDecomposed c.args.model.now = record {
      formed = c.decompositions_are_formed.ensures.formed c.args.model.now;
      stands = c.decompositions_stand.ensures.stands c.args.model.now c.requires.ready.formed c.requires.ready.ranks;
      points = c.decompositions_stand.ensures.points c.args.model.now c.requires.ready.formed c.requires.ready.ranks;
    } in
    let made : c.in_ok-part.part ≡ model_of_net c.args.model.now (net_of c.in_ok-rebuilt.rebuilt.graph) =
    subst (λ (m : Model). c.in_ok-part.part ≡ model_of_net m (net_of c.in_ok-rebuilt.rebuilt.graph)) c.model.ensures c.in_ok-part.ensures.model in
    subst (λ (m : Model). IsReplacement c.args.model.now m) (sym made)
    (c.rebuilt_nets_replace.ensures c.args.model.now c.args.steps.now c.in_ok-rebuilt.rebuilt.taken (net_of c.in_ok-rebuilt.rebuilt.graph) c.requires.ready.formed c.requires.ready.ranked parts
    (subst (λ (m : Model). AreFew (net_of c.in_ok-rebuilt.rebuilt.graph) m) c.model.ensures c.in_ok-part.ensures.few) c.in_ok-rebuilt.ensures.rebuilt)
