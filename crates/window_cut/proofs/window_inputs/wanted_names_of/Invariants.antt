use Rattle.std.proofs.Common.{◌≡◌, take}
use Rattle.rm_base.specs.Words.{Word}
use Rattle.rm_model.specs.Value.{is_among}
use Rattle.window_cut.specs.Inner.Places.{windows_at}
use Rattle.window_cut.specs.Windows.{wanted_names}
use Rattle.window_cut.proofs.window_inputs.wanted_names_of.Given as goal

abbrev pub invariant-loop-window : goal.invariant-loop-window
invariant-loop-window l = (x : Word) → is_among l.wanted x ≡ is_among (wanted_names l.model (windows_at l.model.covers (take l.window-index l.windows))) x
