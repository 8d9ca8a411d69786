use Rattle.std.proofs.Common.{◌∙◌}
use Rattle.window_cut.proofs.Inputs.{models_same}
use Rattle.window_cut.specs.Inner.Places.{windows_at}
use Rattle.window_cut.proofs.window_models.models_of_windows.Goals as goal

pub returns : goal.returns
returns c = c.in_ok-models.ensures ∙ models_same c.args.model.now (windows_at c.args.model.now.covers c.args.windows.now) c.in_ok-wanted.wanted 1 (windows_at c.args.model.now.covers c.args.windows.now) c.in_ok-wanted.ensures
