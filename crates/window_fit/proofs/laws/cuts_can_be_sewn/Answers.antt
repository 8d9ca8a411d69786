use Rattle.std.proofs.Common.{arith}
use Rattle.window_cut.specs.Cut.{windows}
use Rattle.window_cut.specs.Windows.{window_models}
use Rattle.window_fit.proofs.Fit.{models-count, windowed}
use Rattle.window_fit.proofs.laws.cuts_can_be_sewn.Goals as goal

pub returns : goal.returns
returns c = λ width shift m formed ranked few.
    windowed m (window_models width shift m)
    (c.windows_are_models.ensures.standalone width shift m formed ranked (omega (arith, few, models-count m (windows width shift m) 1 (windows width shift m))))
    (c.windows_are_models.ensures.covers width shift m) (c.windows_are_ordered.ensures.order m formed ranked)
    (c.windows_are_models.ensures.reads width shift m formed ranked) (c.windows_are_models.ensures.observed width shift m formed ranked)
