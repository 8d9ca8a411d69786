use Rattle.blif_format.proofs.Spelled.{reads_once}
use Rattle.blif_format.proofs.laws.reads_once.Goals as goal

pub returns : goal.returns
returns c = reads_once
