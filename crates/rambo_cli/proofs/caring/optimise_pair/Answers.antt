use Rattle.std.proofs.Common.{subst, sym}
use Rattle.rambo_cli.specs.Inner.Optcare.{IsMisfit}
use Rattle.rambo_cli.proofs.Cares.{misfit_for}
use Rattle.rambo_cli.proofs.caring.optimise_pair.Goals as goal

pub returns-in-Err-clause-misfit : goal.returns-in-Err-clause-misfit
returns-in-Err-clause-misfit c =
    subst (IsMisfit c.args.pair.now.model c.args.pair.now.other) (sym c.from.ensures) (misfit_for c.args.pair.now.model c.args.pair.now.other c.in-Err.refusal c.requires.few c.requires.second_few c.in-Err.ensures.refused)
