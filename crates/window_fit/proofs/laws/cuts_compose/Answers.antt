use Rattle.window_cut.specs.Windows.{window_models}
use Rattle.window_fit.proofs.laws.cuts_compose.Goals as goal

pub returns : goal.returns
returns c = λ width shift m parts formed ranked few replaced counted.
    c.windows_compose.ensures.least m (window_models width shift m) parts formed ranked (c.cuts_can_be_sewn.ensures width shift m formed ranked few) replaced counted
