use Rattle.std.proofs.Common.{sym}
use Rattle.journal_binary.proofs.Steady.{item_steady}
use Rattle.journal_binary.proofs.parts.add_item.Goals as goal

pub taken-requires : goal.taken-requires
taken-requires c = item_steady.ends c.args.bytes.now c.in_ok-item.rest.now c.in_ok-item.item (sym c.in_ok-item.ensures)
