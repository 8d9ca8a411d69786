use Rattle.gate_net.proofs.Valuations.{values_exist}
use Rattle.gate_net.proofs.values_exist.Goals as goal

pub returns : goal.returns
returns c = values_exist
