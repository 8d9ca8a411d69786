use Rattle.std.proofs.Common.{◌≡◌, map, take, true}
use Rattle.rm_model.specs.Words.{literal_byte}
use Rattle.blif_reader.specs.Lines.{are_literals}
use Rattle.blif_reader.specs.Words.{literal_from}
use Rattle.blif_reader.proofs.draft.row_of.Given as goal

abbrev pub invariant-loop-b : goal.invariant-loop-b
invariant-loop-b l = (l.row.items ≡ map literal_from (take l.b-index l.word)) × (are_literals l.word ≡ true → map literal_byte l.row.items ≡ take l.b-index l.word)
