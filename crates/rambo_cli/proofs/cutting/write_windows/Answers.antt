use Rattle.std.proofs.Common.{arith}
use Rattle.rambo_cli.proofs.CutTexts.{one_more, stands_there}
use Rattle.rambo_cli.proofs.cutting.write_windows.Goals as goal

pub loop-place-preserved : goal.loop-place-preserved
loop-place-preserved g c = record {
  files = one_more c.args.prefix.now c.args.windows.now c.loop-place.place c.index-windows-place.result (g.S.Shelf.files c.args.shelf.now) (g.S.Shelf.files c.loop-place.shelf) (g.S.Shelf.files c.write_window.new.shelf)
      (stands_there c.args.windows.now c.loop-place.place c.index-windows-place.result (omega (arith, c.loop-place-test.true)) c.index-windows-place.is) c.loop-place.invariant.files c.in_ok-write_window.ensures.done;
  later = omega (arith, c.loop-place.invariant.later, c.write_window.ensures.later);
}
