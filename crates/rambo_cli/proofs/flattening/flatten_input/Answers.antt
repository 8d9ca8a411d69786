use Rattle.std.proofs.Common.{length, refl}
use Rattle.rambo_cli.proofs.FlatTexts.{flat_begun, flat_kept, flat_of, flat_written}
use Rattle.rambo_cli.proofs.flattening.flatten_input.Goals as goal

pub returns-clause-done : goal.returns-clause-done
returns-clause-done g c =
    let f = c.in_ok-flat.flat in
    let t = c.in_ok-text.text.items in
    flat_written c.args.input.now c.args.output.now f.instances c.len.result t c.as_slice.result.now c.as_slice.ensures.value (g.S.Shelf.files c.flat_model.new.shelf) (g.S.Shelf.files c.replace.new.shelf)
    (g.S.Shelf.files c.args.shelf.now) c.in_ok-flat.ensures.files
    (flat_of c.args.input.now f.model f.instances c.len.result t (g.S.Shelf.files c.args.shelf.now) c.len.ensures c.in_ok-text.ensures.text (c.in_ok-text.ensures.reads c.in_ok-flat.ensures.formed c.in_ok-flat.ensures.ranked)
    (c.in_ok-text.ensures.faultless c.in_ok-flat.ensures.formed c.in_ok-flat.ensures.ranked) c.in_ok-flat.ensures.flat)
    c.in_ok-replace.ensures.done

pub returns-clause-safe : goal.returns-clause-safe
returns-clause-safe g c =
    let f = c.in_ok-flat.flat in
    let t = c.in_ok-text.text.items in
    flat_begun c.args.input.now c.args.output.now f.instances (length f.model.covers) t c.as_slice.result.now c.as_slice.ensures.value (g.S.Shelf.files c.flat_model.new.shelf) (g.S.Shelf.files c.replace.new.shelf)
    (g.S.Shelf.files c.args.shelf.now) c.in_ok-flat.ensures.files
    (flat_of c.args.input.now f.model f.instances (length f.model.covers) t (g.S.Shelf.files c.args.shelf.now) refl c.in_ok-text.ensures.text (c.in_ok-text.ensures.reads c.in_ok-flat.ensures.formed c.in_ok-flat.ensures.ranked)
    (c.in_ok-text.ensures.faultless c.in_ok-flat.ensures.formed c.in_ok-flat.ensures.ranked) c.in_ok-flat.ensures.flat)
    c.in_ok-replace.ensures.begun

pub returns-in_err-replace-clause-safe : goal.returns-in_err-replace-clause-safe
returns-in_err-replace-clause-safe g c =
    let f = c.in_ok-flat.flat in
    let t = c.in_ok-text.text.items in
    flat_begun c.args.input.now c.args.output.now f.instances (length f.model.covers) t c.as_slice.result.now c.as_slice.ensures.value (g.S.Shelf.files c.flat_model.new.shelf) (g.S.Shelf.files c.replace.new.shelf)
    (g.S.Shelf.files c.args.shelf.now) c.in_ok-flat.ensures.files
    (flat_of c.args.input.now f.model f.instances (length f.model.covers) t (g.S.Shelf.files c.args.shelf.now) refl c.in_ok-text.ensures.text (c.in_ok-text.ensures.reads c.in_ok-flat.ensures.formed c.in_ok-flat.ensures.ranked)
    (c.in_ok-text.ensures.faultless c.in_ok-flat.ensures.formed c.in_ok-flat.ensures.ranked) c.in_ok-flat.ensures.flat)
    c.in_err-replace.ensures.begun

pub returns-in_err-flat-clause-safe : goal.returns-in_err-flat-clause-safe
returns-in_err-flat-clause-safe g c =
    flat_kept c.args.input.now c.args.output.now (g.S.Shelf.files c.args.shelf.now) (g.S.Shelf.files c.flat_model.new.shelf) c.in_err-flat.ensures.files

pub returns-in_err-text-clause-safe : goal.returns-in_err-text-clause-safe
returns-in_err-text-clause-safe g c =
    flat_kept c.args.input.now c.args.output.now (g.S.Shelf.files c.args.shelf.now) (g.S.Shelf.files c.flat_model.new.shelf) c.in_ok-flat.ensures.files
