use Rattle.care_opt.proofs.Models.{Laws, all_at, gated_stand}
use Rattle.care_opt.proofs.telling.cares_tell.Goals as goal

pub returns-clause-tell : goal.returns-clause-tell
returns-clause-tell c =
    let laws : Laws = record {
      exist = c.values_exist.ensures;
      stands = c.decompositions_stand.ensures.stands;
      points = c.decompositions_stand.ensures.points;
      wires = c.decompositions_stand.ensures.wires;
      formed = c.decompositions_are_formed.ensures.formed;
      no_gaps = c.decompositions_are_formed.ensures.no_gaps;
      order = c.decompositions_are_formed.ensures.order;
      ranked = c.ranks_exist.ensures.ranked;
      form = c.steps_keep.ensures.form;
      sources = c.steps_keep.ensures.sources;
      means = c.order_tells.ensures.tidy;
      grow = c.tidying_ends.ensures.wires;
      keep = c.accepted_runs_keep.ensures;
      models = c.tidy_nets_have_models.ensures;
    } in
    all_at laws c.faulty_values_exist.ensures

pub returns-clause-gated : goal.returns-clause-gated
returns-clause-gated c =
    let laws : Laws = record {
      exist = c.values_exist.ensures;
      stands = c.decompositions_stand.ensures.stands;
      points = c.decompositions_stand.ensures.points;
      wires = c.decompositions_stand.ensures.wires;
      formed = c.decompositions_are_formed.ensures.formed;
      no_gaps = c.decompositions_are_formed.ensures.no_gaps;
      order = c.decompositions_are_formed.ensures.order;
      ranked = c.ranks_exist.ensures.ranked;
      form = c.steps_keep.ensures.form;
      sources = c.steps_keep.ensures.sources;
      means = c.order_tells.ensures.tidy;
      grow = c.tidying_ends.ensures.wires;
      keep = c.accepted_runs_keep.ensures;
      models = c.tidy_nets_have_models.ensures;
    } in
    gated_stand laws
