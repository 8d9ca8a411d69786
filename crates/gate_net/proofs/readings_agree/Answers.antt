use Rattle.gate_net.proofs.Readings.{readings_agree}
use Rattle.gate_net.proofs.readings_agree.Goals as goal

pub returns : goal.returns
returns c = readings_agree
