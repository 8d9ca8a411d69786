use Rattle.std.proofs.Common.{◌∙◌}
use Rattle.rm_model.specs.Value.{is_among}
use Rattle.window_cut.proofs.Inputs.{given_next}
use Rattle.window_cut.proofs.window_inputs.given_names.Goals as goal

pub loop-place-preserved : goal.loop-place-preserved
loop-place-preserved c = λ x. c.in_ok-include_output.ensures x ∙ given_next c.args.covers.now c.args.places.now c.loop-place.place-index x (is_among c.loop-place.table x) c.loop-place-test.true (c.loop-place.invariant x)
