use Rattle.std.proofs.Common.{Err, ap}
use Rattle.std.proofs.lemmas.Result.{err_from_is_err_and}
use Rattle.rambo_cli.proofs.ConvertedFiles.{convert_cause, converted_read}
use Rattle.rambo_cli.proofs.converting.converted_of.Goals as goal

pub returns-clause-converted : goal.returns-clause-converted
returns-clause-converted g c = converted_read (g.S.Shelf.files c.args.shelf.now) c.args.from.now c.in_ok-convert.field-0.text.items c.in_ok-convert.field-0.count c.in_ok-convert.ensures.converted

pub returns-in_err-convert-clause-cause : goal.returns-in_err-convert-clause-cause
returns-in_err-convert-clause-cause g c =
    let p = err_from_is_err_and c.from_residual.result c.from_residual.ensures.1 in
    rw (p.1, p.2) (
    convert_cause (g.S.Shelf.files c.args.shelf.now) c.args.from.now (g.S.Shelf.faults c.args.shelf.now) (g.S.Shelf.faults c.convert.new.shelf) c.in_err-convert.field-0.0 c.in_err-convert.ensures.problem
    (λ e. c.in_err-convert.ensures.missing (ap (λ x. Err x) e)) (λ e. c.in_err-convert.ensures.fault (ap (λ x. Err x) e))
    )
