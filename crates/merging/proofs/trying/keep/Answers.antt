use Rattle.std.proofs.Common.{refl}
use Rattle.merging.proofs.trying.keep.Goals as goal

pub returns-clause-kept : goal.returns-clause-kept
returns-clause-kept c = record { net = c.keep.ensures.net; entries = c.keep.ensures.entries; room = c.keep.ensures.room; first = c.keep.ensures.first; holds = c.keep.ensures.held; refuter = refl }
