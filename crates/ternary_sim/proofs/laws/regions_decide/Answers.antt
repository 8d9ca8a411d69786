use Rattle.ternary_sim.proofs.Wholes.{regions_decide}
use Rattle.ternary_sim.proofs.laws.regions_decide.Goals as goal

pub returns : goal.returns
returns c = regions_decide
