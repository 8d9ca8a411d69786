use Rattle.std.proofs.Common.{List, subst, sym}
use Rattle.rm_model.specs.declared.parts.Cover.{Cover}
use Rattle.window_cut.proofs.Fits.{windows_fit}
use Rattle.window_cut.specs.Cut.{windows}
use Rattle.window_cut.specs.Laws.{AreInOrder}
use Rattle.window_cut.proofs.laws.windows_fit_together.Goals as goal

pub returns : goal.returns
returns c = λ width shift m formed ranked. windows_fit m (windows width shift m) (subst (λ (cs : List Cover). AreInOrder m cs) (sym (c.windows_are_ordered.ensures.joined width shift m)) (c.windows_are_ordered.ensures.order m formed ranked))
