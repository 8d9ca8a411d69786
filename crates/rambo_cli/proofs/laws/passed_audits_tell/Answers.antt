use Rattle.rambo_cli.specs.Composition.{IsDecomposed}
use Rattle.rambo_cli.proofs.Composed.{equivalent, fits}
use Rattle.rambo_cli.proofs.laws.passed_audits_tell.Goals as goal

pub returns : goal.returns
returns c = λ m files journal output count model ranked ranks passed.
    let parts : IsDecomposed m = record {
      formed = c.decompositions_are_formed.ensures.formed m;
      stands = c.decompositions_stand.ensures.stands m model ranks;
      points = c.decompositions_stand.ensures.points m model ranks;
      wires = c.decompositions_stand.ensures.wires m model ranks;
    } in
    let text = passed.accepted.accepted in
    let told = c.accepted_journals_tell.ensures m text.budget text.records passed.last text.accepted in
    let fit = fits c.values_exist.ensures m passed.last parts told.keeps in
    let is = c.tidy_nets_have_models.ensures passed.last m told.keeps.form told.tidy model fit passed.few in
    equivalent c.values_exist.ensures m passed.last parts told.keeps is ranked
