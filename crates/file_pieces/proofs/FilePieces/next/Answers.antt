use Rattle.std.proofs.Common.{rules, ◌≡◌, ◌<◌, ◌+◌, ◌^◌, length, refl, subst}
use Rattle.file_pieces.specs.Pieces.{IsReadSoFar}
use Rattle.file_pieces.proofs.Seams.{read_on, read_over, read_there}
use Rattle.file_pieces.proofs.FilePieces.next.Goals as goal

pub returns-then-self-eq-MOST_BYTES-clause-stops : goal.returns-then-self-eq-MOST_BYTES-clause-stops
returns-then-self-eq-MOST_BYTES-clause-stops g c = λ text read.
    let same : c.args.self.now ≡ c.self.inside.from = search rules in
    let limit : c.self.inside.from ≡ 2 ^ 62 = search rules in
    let more : 0 < length c.in_ok-piece.piece.items = search rules in
    read_over (g.S.Shelf.files c.args.shelf.now) c.args.name.now text c.in_ok-piece.piece.items c.self.inside.from c.piece_size-most.result c.piece_size-most.ensures.some limit more
    (subst (IsReadSoFar (g.S.Shelf.files c.args.shelf.now) c.args.name.now text) same read) c.in_ok-piece.ensures.gives

pub returns-clause-comes : goal.returns-clause-comes
returns-clause-comes g c = λ text read.
    let same : c.args.self.now ≡ c.self.inside.from = search rules in
    let some : 0 < length c.in_ok-piece.piece.items = search rules in
    let now : c.self.inside.from + c.len.result ≡ c.self.inside.from + length c.in_ok-piece.piece.items = search rules in (
      read_on (g.S.Shelf.files c.args.shelf.now) c.args.name.now text c.in_ok-piece.piece.items c.self.inside.from c.piece_size-most.result (c.self.inside.from + c.len.result) c.piece_size-most.ensures.some
          (subst (IsReadSoFar (g.S.Shelf.files c.args.shelf.now) c.args.name.now text) same read) c.in_ok-piece.ensures.gives now,
      some,
    )

pub returns-then-is_empty-clause-there : goal.returns-then-is_empty-clause-there
returns-then-is_empty-clause-there g c = read_there (g.S.Shelf.files c.args.shelf.now) c.args.name.now c.in_ok-piece.piece.items c.self.inside.from c.piece_size-most.result c.in_ok-piece.ensures.gives

pub returns-clause-there : goal.returns-clause-there
returns-clause-there g c = read_there (g.S.Shelf.files c.args.shelf.now) c.args.name.now c.in_ok-piece.piece.items c.self.inside.from c.piece_size-most.result c.in_ok-piece.ensures.gives
