use Rattle.std.proofs.Common.{IfSome}
use Rattle.file_pieces.specs.declared.PieceProblem.{PieceProblem}
use Rattle.journal_check.proofs.Public.{handed_on}
use Rattle.accepted_steps.specs.Taken.{NotTaken}
use Rattle.accepted_steps.proofs.Journals.{further, no_piece, not_taken, one_piece, turn_goes, turn_last}
use Rattle.accepted_steps.proofs.reading.take_next.Goals as goal

pub returns-in_err-piece-clause-problem : goal.returns-in_err-piece-clause-problem
returns-in_err-piece-clause-problem g c =
    let s = c.requires.taken in
    handed_on c.from_residual.result c.in_err-piece.field-0.0 (λ (e : PieceProblem). IfSome (g.S.Shelf.files c.args.shelf.now) (λ told. NotTaken c.args.journal.now told e)) c.from_residual.ensures.1
    (not_taken (g.S.Shelf.files c.args.shelf.now) c.args.journal.now s.text c.in_err-piece.field-0.0 (c.in_err-piece.ensures.stops s.text s.so_far))

pub last-requires-clause-taken : goal.last-requires-clause-taken
last-requires-clause-taken g c = (c.args.model.now, (c.requires.taken.text, (c.args.taking.now, c.requires.taken.taking)))

pub returns-in_default-clause-turn : goal.returns-in_default-clause-turn
returns-in_default-clause-turn g c =
    let s = c.requires.taken in
    turn_last (g.S.Shelf.files c.args.shelf.now) c.args.model.now c.args.journal.now c.args.pieces.now c.args.reader.now c.args.taking.now c.last.result s
    (no_piece _ c.in_ok-piece.field-0 (g.S.Shelf.files c.args.shelf.now) c.args.journal.now s.text c.next.new.self c.in_default.is (c.in_ok-piece.ensures.comes s.text s.so_far)) c.last.ensures

pub returns-clause-turn : goal.returns-clause-turn
returns-clause-turn g c =
    let s = c.requires.taken in
    turn_goes (g.S.Shelf.files c.args.shelf.now) c.args.model.now c.args.journal.now c.in-Some.piece.items c.as_slice.result.now c.args.pieces.now c.next.new.self c.args.reader.now c.take_piece.new.reader c.args.taking.now c.take_piece.new.taking c.in_ok-ended.ended c.told_by.result s
    (one_piece _ c.in_ok-piece.field-0 c.in-Some.piece (g.S.Shelf.files c.args.shelf.now) c.args.journal.now s.text c.next.new.self c.in-Some.is (c.in_ok-piece.ensures.comes s.text s.so_far))
    (further _ c.in_ok-piece.field-0 c.in-Some.piece c.args.pieces.now c.next.new.self c.in-Some.is c.in_ok-piece.ensures.goes)
    c.in_ok-piece.ensures.most c.in_ok-piece.ensures.there c.as_slice.ensures.value c.in_ok-ended.ensures c.told_by.ensures
