use Rattle.blif_reader.proofs.ModelLaws.{text_reads}
use Rattle.blif_reader.proofs.laws.faultless_texts_read.Goals as goal

pub returns : goal.returns
returns c = text_reads c.ranks_follow.ensures.length (λ m once none. (c.ranks_exist.ensures.ranked m once).1 none)
