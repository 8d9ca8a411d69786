use Rattle.std.proofs.Common.{arith}
use Rattle.cover_sharing.specs.Shared.{shared}
use Rattle.window_cut.specs.Cut.{windows}
use Rattle.window_fit.proofs.Fit.{models-count}
use Rattle.window_fit.proofs.laws.shared_windows_stand_alone.Goals as goal

pub returns : goal.returns
returns c = λ width shift m formed ranked few.
    c.windows_are_models.ensures.standalone width shift (shared m) (c.shared_models_agree.ensures.formed m formed ranked) (c.shared_models_agree.ensures.agree m formed ranked).other_ranked
    (omega (arith, few, models-count (shared m) (windows width shift (shared m)) 1 (windows width shift (shared m))))
