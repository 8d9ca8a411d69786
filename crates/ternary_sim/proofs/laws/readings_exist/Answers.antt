use Rattle.ternary_sim.proofs.Wholes.{readings_exist}
use Rattle.ternary_sim.proofs.laws.readings_exist.Goals as goal

pub returns : goal.returns
returns c = readings_exist
