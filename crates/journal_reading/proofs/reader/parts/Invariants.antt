use Rattle.std.proofs.Common.{drop, ◌≡◌}
use Rattle.journal_binary.specs.Binary.{magic}
use Rattle.journal_reading.specs.Inner.Readers.{parts as parts_from}
use Rattle.journal_reading.proofs.reader.parts.Given as goal

abbrev pub invariant-loop-place : goal.invariant-loop-place
invariant-loop-place l = parts_from (drop l.place magic) (drop l.place l.bytes) ≡ parts_from magic l.bytes
