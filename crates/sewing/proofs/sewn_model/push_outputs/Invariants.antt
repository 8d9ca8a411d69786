use Rattle.std.proofs.Common.{◌≡◌, ◌++◌, take}
use Rattle.sewing.specs.Windows.{window_outputs}
use Rattle.sewing.proofs.sewn_model.push_outputs.Given as goal

abbrev pub invariant-loop-part : goal.invariant-loop-part
invariant-loop-part l = l.names.items ≡ l.initial.names.items ++ window_outputs (take l.part-index l.parts)
