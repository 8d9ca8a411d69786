use Rattle.gate_net.proofs.Spread.{idle_pins_change_nothing}
use Rattle.gate_net.proofs.idle_pins_change_nothing.Goals as goal

pub returns : goal.returns
returns c = idle_pins_change_nothing
