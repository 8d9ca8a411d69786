use Rattle.std.proofs.Common.{sym}
use Rattle.journal_binary.proofs.Steady.{bit_steady}
use Rattle.journal_binary.proofs.parts.add_bit.Goals as goal

pub taken-requires : goal.taken-requires
taken-requires c = bit_steady.ends c.args.bytes.now c.in_ok-value.rest.now c.in_ok-value.value (sym c.in_ok-value.ensures)
