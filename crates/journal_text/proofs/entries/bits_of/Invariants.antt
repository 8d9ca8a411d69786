use Rattle.std.proofs.Common.{◌≡◌, drop}
use Rattle.journal_text.specs.Reading.{bits_from}
use Rattle.journal_text.specs.Inner.Reading.{with_bits}
use Rattle.journal_text.proofs.entries.bits_of.Given as goal

abbrev pub invariant-loop-byte : goal.invariant-loop-byte
invariant-loop-byte l = bits_from l.word ≡ with_bits l.values.items (bits_from (drop l.byte-index l.word))
