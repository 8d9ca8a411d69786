use Rattle.std.proofs.Common.{ap, map}
use Rattle.window_cut.proofs.Inputs.{inputs_next, inputs_start}
use Rattle.window_cut.specs.Order.{covers_at}
use Rattle.window_cut.specs.Windows.{window_inputs}
use Rattle.window_cut.proofs.window_inputs.window_inputs.Goals as goal

pub loop-place-init : goal.loop-place-init
loop-place-init c = inputs_start c.args.covers.now c.args.places.now c.in_ok-known.known (map (λ x. x.now) c.new-inputs.result.items) (ap (λ l. map (λ x. x.now) l) c.new-inputs.ensures.items) c.in_ok-known.ensures

pub loop-place-preserved : goal.loop-place-preserved
loop-place-preserved c =
    inputs_next c.args.covers.now c.args.places.now c.loop-place.place-index c.loop-place.known c.push_inputs.new.known (map (λ x. x.now) c.loop-place.inputs.items) (map (λ x. x.now) c.push_inputs.new.out.items) (window_inputs (covers_at c.args.covers.now c.args.places.now)) c.loop-place-test.true
    c.in_ok-push_inputs.ensures.known c.in_ok-push_inputs.ensures.out c.loop-place.invariant
