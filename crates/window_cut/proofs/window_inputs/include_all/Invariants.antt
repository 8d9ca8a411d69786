use Rattle.std.proofs.Common.{◌≡◌, ◌||◌, take}
use Rattle.rm_base.specs.Words.{Word}
use Rattle.rm_model.specs.Value.{is_among}
use Rattle.window_cut.proofs.window_inputs.include_all.Given as goal

abbrev pub invariant-loop-name : goal.invariant-loop-name
invariant-loop-name l = (x : Word) → is_among l.table x ≡ (is_among l.initial.table x || is_among (take l.name-index l.names) x)
