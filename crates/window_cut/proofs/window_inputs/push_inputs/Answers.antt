use Rattle.std.proofs.Common.{map}
use Rattle.std.specs.Prelude.{slice_get}
use Rattle.window_cut.proofs.Inputs.{none_known}
use Rattle.window_cut.proofs.window_inputs.push_inputs.Goals as goal

pub returns-in-None-clause-known : goal.returns-in-None-clause-known
returns-in-None-clause-known c = none_known c.args.known.now c.args.known.now (slice_get c.args.covers.now c.args.place) c.in-None.ensures

pub returns-in-None-clause-out : goal.returns-in-None-clause-out
returns-in-None-clause-out c = none_known c.args.known.now (map (λ x. x.now) c.args.out.now.items) (slice_get c.args.covers.now c.args.place) c.in-None.ensures
