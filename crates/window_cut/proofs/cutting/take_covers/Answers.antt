use Rattle.std.proofs.Common.{◌+◌, take, option_to_list}
use Rattle.std.specs.Prelude.{slice_get, slice_index}
use Rattle.window_cut.proofs.Cuts.{takes_more}
use Rattle.window_cut.proofs.Lists.{covers_at-next}
use Rattle.window_cut.specs.Order.{covers_at}
use Rattle.window_cut.proofs.cutting.take_covers.Goals as goal

pub loop-place-preserved : goal.loop-place-preserved
loop-place-preserved c =
    takes_more c.args.covers.now c.args.width c.ranges.width.fits c.args.cutting.now c.loop-place.cutting c.take_cover.new.cutting (covers_at c.args.covers.now (take c.loop-place.place-index c.args.order.now)) (option_to_list (slice_get c.args.covers.now (slice_index c.args.order.now c.loop-place.place-index))) (covers_at c.args.covers.now (take (c.loop-place.place-index + 1) c.args.order.now))
    (covers_at-next c.args.covers.now c.args.order.now c.loop-place.place-index c.loop-place-test.true) c.loop-place.invariant c.in_ok-take_cover.ensures
