use Rattle.std.proofs.Common.{◌≡◌, ◌+◌, ◌++◌, drop}
use Rattle.window_cut.specs.Inner.Models.{models_with}
use Rattle.window_cut.specs.Inner.Places.{windows_at}
use Rattle.window_cut.proofs.window_models.models_by.Given as goal

abbrev pub invariant-loop-index : goal.invariant-loop-index
invariant-loop-index l = l.models.items ++ models_with l.wanted (l.index + 1) (windows_at l.model.covers (drop l.index l.windows)) ≡ models_with l.wanted 1 (windows_at l.model.covers l.windows)
