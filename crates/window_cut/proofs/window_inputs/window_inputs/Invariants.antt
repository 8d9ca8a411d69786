use Rattle.std.proofs.Common.{◌≡◌, ◌++◌, map, drop}
use Rattle.window_cut.specs.Order.{covers_at}
use Rattle.window_cut.specs.Windows.{new_names, read_names, window_inputs}
use Rattle.window_cut.proofs.window_inputs.window_inputs.Given as goal

abbrev pub invariant-loop-place : goal.invariant-loop-place
invariant-loop-place l = map (λ x. x.now) l.inputs.items ++ new_names l.known (read_names (covers_at l.covers (drop l.place-index l.places))) ≡ window_inputs (covers_at l.covers l.places)
