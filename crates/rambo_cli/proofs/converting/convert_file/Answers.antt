use Rattle.rambo_cli.proofs.ConvertedFiles.{convert_begun, convert_kept, convert_written}
use Rattle.rambo_cli.proofs.converting.convert_file.Goals as goal

pub returns-clause-done : goal.returns-clause-done
returns-clause-done g c =
    convert_written c.args.from.now c.args.to.now c.in_ok-converted.converted.text.items c.in_ok-converted.converted.count c.as_slice.result.now c.as_slice.ensures.value (g.S.Shelf.files c.converted_of.new.shelf) (g.S.Shelf.files c.replace.new.shelf)
    (g.S.Shelf.files c.args.shelf.now) c.in_ok-converted.ensures.files c.in_ok-converted.ensures.converted c.in_ok-replace.ensures.done

pub returns-clause-safe : goal.returns-clause-safe
returns-clause-safe g c =
    convert_begun c.args.from.now c.args.to.now c.in_ok-converted.converted.text.items c.in_ok-converted.converted.count c.as_slice.result.now c.as_slice.ensures.value (g.S.Shelf.files c.converted_of.new.shelf) (g.S.Shelf.files c.replace.new.shelf)
    (g.S.Shelf.files c.args.shelf.now) c.in_ok-converted.ensures.files c.in_ok-converted.ensures.converted c.in_ok-replace.ensures.begun

pub returns-in_err-replace-clause-safe : goal.returns-in_err-replace-clause-safe
returns-in_err-replace-clause-safe g c =
    convert_begun c.args.from.now c.args.to.now c.in_ok-converted.converted.text.items c.in_ok-converted.converted.count c.as_slice.result.now c.as_slice.ensures.value (g.S.Shelf.files c.converted_of.new.shelf) (g.S.Shelf.files c.replace.new.shelf)
    (g.S.Shelf.files c.args.shelf.now) c.in_ok-converted.ensures.files c.in_ok-converted.ensures.converted c.in_err-replace.ensures.begun

pub returns-in_err-converted-clause-safe : goal.returns-in_err-converted-clause-safe
returns-in_err-converted-clause-safe g c =
    convert_kept c.args.from.now c.args.to.now (g.S.Shelf.files c.args.shelf.now) (g.S.Shelf.files c.converted_of.new.shelf) c.in_err-converted.ensures.files
