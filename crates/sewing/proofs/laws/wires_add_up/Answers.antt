use Rattle.sewing.proofs.Wires.{add-up}
use Rattle.sewing.proofs.laws.wires_add_up.Goals as goal

pub returns : goal.returns
returns c = add-up c.needed_covers_are_taken.ensures.taken c.ranks_exist.ensures.ranked
