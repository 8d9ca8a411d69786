use Rattle.accepted_steps.proofs.Journals.{so_far_first}
use Rattle.accepted_steps.proofs.reading.accepted_steps.Goals as goal

pub take_pieces-requires-clause-taken : goal.take_pieces-requires-clause-taken
take_pieces-requires-clause-taken g c =
    so_far_first c.cuts_agree.ensures (g.S.Shelf.files c.args.shelf.now) c.args.model.now c.args.journal.now c.new-pieces.result c.new-reader.result c.new-taking.result c.new-pieces.ensures c.new-reader.ensures (c.new-taking.ensures c.args.model.now 0)
