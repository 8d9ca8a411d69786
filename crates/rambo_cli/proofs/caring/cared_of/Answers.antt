use Rattle.std.proofs.Common.{List, subst, sym, ℕ}
use Rattle.journal_check.proofs.Public.{handed_on}
use Rattle.journal_text.specs.Text.{journal_text}
use Rattle.rambo_cli.specs.Inner.Optcare.{IsMisfit, made_of}
use Rattle.rambo_cli.specs.Optcare.{IsCaredInto}
use Rattle.rambo_cli.specs.declared.problem.Problem.TheVariants.{Memory}
use Rattle.rambo_cli.proofs.caring.cared_of.Goals as goal

pub returns-in_err-done-clause-misfit : goal.returns-in_err-done-clause-misfit
returns-in_err-done-clause-misfit c = handed_on c.from_residual.result c.in_err-done.field-0.0 (IsMisfit c.args.pair.now.model c.args.pair.now.other) c.from_residual.ensures.1 c.in_err-done.ensures.misfit

pub returns-in_err-figures-clause-misfit : goal.returns-in_err-figures-clause-misfit
returns-in_err-figures-clause-misfit c = handed_on c.from_residual-in_err-figures.result Memory (IsMisfit c.args.pair.now.model c.args.pair.now.other) c.from_residual-in_err-figures.ensures.1 tt

pub returns-in_err-text-clause-misfit : goal.returns-in_err-text-clause-misfit
returns-in_err-text-clause-misfit c = handed_on c.from_residual-in_err-text.result Memory (IsMisfit c.args.pair.now.model c.args.pair.now.other) c.from_residual-in_err-text.ensures.1 tt

pub returns-clause-cared : goal.returns-clause-cared
returns-clause-cared c =
    let done = c.in_ok-done.done in
    let written =
    c.cared_nets_are_written.ensures c.args.pair.now.model c.args.pair.now.other c.args.settings.now done.graph (made_of done) done.records.items c.in_ok-figures.figures c.requires.usable.formed c.requires.usable.ranked c.requires.usable.limits c.requires.few c.well_formed-2.ensures.net c.in_ok-text.ensures.few
    c.in_ok-done.ensures.done c.in_ok-figures.ensures in
    record {
      into = subst (λ (text : List ℕ). IsCaredInto c.args.pair.now.model c.args.pair.now.other c.args.settings.now c.in_ok-figures.figures (journal_text c.args.settings.now.budget done.records.items) text) (sym c.in_ok-text.ensures.text) written.into;
      writable = written.writable;
    }
