use Rattle.gate_net.proofs.Added.{adds_keep}
use Rattle.gate_net.proofs.adds_keep.Goals as goal

pub returns : goal.returns
returns c = adds_keep
