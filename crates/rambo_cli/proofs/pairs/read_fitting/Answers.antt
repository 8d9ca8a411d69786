use Rattle.journal_check.proofs.Public.{handed_on}
use Rattle.rambo_cli.specs.Input.{CauseBy}
use Rattle.rambo_cli.specs.Inner.Pairs.{wires_by}
use Rattle.rambo_cli.proofs.Auditing.{too_many}
use Rattle.rambo_cli.proofs.Pairings.{either}
use Rattle.rambo_cli.proofs.pairs.read_fitting.Goals as goal

pub returns-in_err-model-clause-cause : goal.returns-in_err-model-clause-cause
returns-in_err-model-clause-cause g c =
    handed_on c.from_residual.result c.in_err-model.field-0.0 (CauseBy (wires_by c.args.parities) c.args.name.now (g.S.Shelf.files c.args.shelf.now) (g.S.Shelf.faults c.args.shelf.now) (g.S.Shelf.faults c.read_input.new.shelf)) c.from_residual.ensures.1
    (either c.args.parities c.args.name.now (g.S.Shelf.files c.args.shelf.now) (g.S.Shelf.faults c.args.shelf.now) (g.S.Shelf.faults c.read_input.new.shelf) c.in_err-model.field-0.0 c.in_err-model.ensures.cause c.in_err-model.ensures.plain_cause)

pub returns-in_err-fits_with-clause-cause : goal.returns-in_err-fits_with-clause-cause
returns-in_err-fits_with-clause-cause g c =
    let problem = c.in_err-fits_with.field-0.0 in
    handed_on c.from_residual-in_err-fits_with.result problem (CauseBy (wires_by c.args.parities) c.args.name.now (g.S.Shelf.files c.args.shelf.now) (g.S.Shelf.faults c.args.shelf.now) (g.S.Shelf.faults c.read_input.new.shelf)) c.from_residual-in_err-fits_with.ensures.1
    (too_many (wires_by c.args.parities) c.in_ok-model.model c.args.name.now (g.S.Shelf.files c.args.shelf.now) (g.S.Shelf.faults c.args.shelf.now) (g.S.Shelf.faults c.read_input.new.shelf) problem c.in_ok-model.ensures.said c.in_err-fits_with.ensures.cause)
