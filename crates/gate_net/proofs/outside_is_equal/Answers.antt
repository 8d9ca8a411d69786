use Rattle.gate_net.proofs.Spread.{outside_is_equal}
use Rattle.gate_net.proofs.outside_is_equal.Goals as goal

pub returns : goal.returns
returns c = outside_is_equal
