use Rattle.gate_net.proofs.Readings.{readings_hold}
use Rattle.gate_net.proofs.readings_hold.Goals as goal

pub returns : goal.returns
returns c = readings_hold
