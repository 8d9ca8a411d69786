use Rattle.gate_net.proofs.Ordered.{pins_keep_acyclic}
use Rattle.gate_net.proofs.pins_keep_acyclic.Goals as goal

pub returns : goal.returns
returns c = pins_keep_acyclic
