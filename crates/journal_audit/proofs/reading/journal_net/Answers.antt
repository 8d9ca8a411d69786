use Rattle.std.proofs.Common.{◌≡◌, ◌≤◌, ap, arith, length, List, ℕ}
use Rattle.journal_audit.proofs.Turning.{piece_short}
use Rattle.journal_audit.proofs.reading.journal_net.Goals as goal

pub next_turn-requires-clause-within : goal.next_turn-requires-clause-within
next_turn-requires-clause-within g c = λ below.
    let short : length c.in_ok-piece.piece.items ≤ c.piece_size-most.result = piece_short (g.S.Shelf.files c.loop-stage.shelf) c.args.journal.now c.loop-stage.from c.piece_size-most.result c.in_ok-piece.piece.items c.in_ok-piece.ensures.gives in
    let same : length c.as_slice.result.now ≡ length c.in_ok-piece.piece.items = ap (λ (xs : List ℕ). length xs) c.as_slice.ensures.value in
    omega (arith, short, same, c.piece_size-most.ensures.within below)
