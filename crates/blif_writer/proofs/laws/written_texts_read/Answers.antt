use Rattle.blif_writer.proofs.TextReads.{written_texts_read}
use Rattle.blif_writer.proofs.laws.written_texts_read.Goals as goal

pub returns : goal.returns
returns c = written_texts_read
