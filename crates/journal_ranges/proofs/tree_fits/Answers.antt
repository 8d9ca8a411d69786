use Rattle.journal_ranges.proofs.Fitting.{items_more}
use Rattle.journal_ranges.proofs.tree_fits.Goals as goal

pub loop-item-preserved : goal.loop-item-preserved
loop-item-preserved c = items_more c.items-items.result.now c.loop-item.item-index _ c.loop-item-test.true c.loop-item.invariant c.item_fits.ensures
