use Rattle.std.specs.Prelude.{slice_get}
use Rattle.window_cut.proofs.Inputs.{none_pushed}
use Rattle.window_cut.proofs.copies.push_copy.Goals as goal

pub returns-in-None : goal.returns-in-None
returns-in-None c = none_pushed c.args.made.now.items (slice_get c.args.covers.now c.args.place) c.in-None.ensures
