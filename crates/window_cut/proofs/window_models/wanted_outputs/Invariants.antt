use Rattle.std.proofs.Common.{◌≡◌, take, filter}
use Rattle.rm_model.specs.Value.{is_among, outputs_of}
use Rattle.window_cut.specs.Order.{covers_at}
use Rattle.window_cut.proofs.window_models.wanted_outputs.Given as goal

abbrev pub invariant-loop-place : goal.invariant-loop-place
invariant-loop-place l = l.outputs.items ≡ filter (is_among l.wanted) (outputs_of (covers_at l.covers (take l.place-index l.places)))
