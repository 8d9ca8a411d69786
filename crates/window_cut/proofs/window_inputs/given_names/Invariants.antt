use Rattle.std.proofs.Common.{◌≡◌, take}
use Rattle.rm_base.specs.Words.{Word}
use Rattle.rm_model.specs.Value.{is_among, outputs_of}
use Rattle.window_cut.specs.Order.{covers_at}
use Rattle.window_cut.proofs.window_inputs.given_names.Given as goal

abbrev pub invariant-loop-place : goal.invariant-loop-place
invariant-loop-place l = (x : Word) → is_among l.table x ≡ is_among (outputs_of (covers_at l.covers (take l.place-index l.places))) x
