use Rattle.std.proofs.Common.{◌∙◌}
use Rattle.window_cut.proofs.Cuts.{cut_whole}
use Rattle.window_cut.specs.Cut.{first_width}
use Rattle.window_cut.specs.Order.{covers_at}
use Rattle.window_cut.proofs.cutting.windows_of.Goals as goal

pub returns : goal.returns
returns c = c.in_ok-windows.ensures c.args.covers.now c.args.width c.in_ok-take_covers.ensures.weighed ∙ cut_whole c.args.covers.now (covers_at c.args.covers.now c.args.order.now) (first_width c.args.width c.args.shift) c.args.width _ c.take_covers.new.cutting c.new.ensures.items c.new-2.ensures.items c.first_width.ensures c.in_ok-take_covers.ensures
