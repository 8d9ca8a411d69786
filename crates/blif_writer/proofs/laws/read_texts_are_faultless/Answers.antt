use Rattle.blif_writer.proofs.FaultLaws.{read_texts_are_faultless}
use Rattle.blif_writer.proofs.laws.read_texts_are_faultless.Goals as goal

pub returns : goal.returns
returns c = read_texts_are_faultless c.ranks_exist.ensures.ranked
