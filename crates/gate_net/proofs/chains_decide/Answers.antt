use Rattle.gate_net.proofs.Spread.{chains_decide}
use Rattle.gate_net.proofs.chains_decide.Goals as goal

pub returns : goal.returns
returns c = chains_decide
