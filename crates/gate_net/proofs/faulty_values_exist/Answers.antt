use Rattle.gate_net.proofs.Valuations.{faulty_values_exist}
use Rattle.gate_net.proofs.faulty_values_exist.Goals as goal

pub returns : goal.returns
returns c = faulty_values_exist
