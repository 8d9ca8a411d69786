use Rattle.window_cut.proofs.Inputs.{outputs_next}
use Rattle.window_cut.proofs.window_models.wanted_outputs.Goals as goal

pub loop-place-preserved : goal.loop-place-preserved
loop-place-preserved c =
    outputs_next c.args.wanted.now c.args.covers.now c.args.places.now c.loop-place.place-index c.loop-place.outputs.items c.push_wanted.new.outputs.items c.loop-place-test.true
    c.in_ok-push_wanted.ensures c.loop-place.invariant
