use Rattle.std.proofs.Common.{sym}
use Rattle.journal_binary.proofs.Steady.{head_steady}
use Rattle.journal_binary.proofs.reader.BinaryReader.read_header.Goals as goal

pub taken-requires : goal.taken-requires
taken-requires c = head_steady.ends c.rest_from-held.result.now c.in-Ok.head.1.now c.in-Ok.head.0 (sym c.in-Ok.ensures)
