use Rattle.std.proofs.Common.{take}
use Rattle.journal_text.specs.Text.{AreItems}
use Rattle.journal_ranges.proofs.tree_fits.Given as goal

abbrev pub invariant-loop-item : goal.invariant-loop-item
invariant-loop-item l = AreItems (take l.item-index l.items)
