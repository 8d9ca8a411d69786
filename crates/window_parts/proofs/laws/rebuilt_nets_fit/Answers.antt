use Rattle.window_parts.proofs.Rebuilt.{fits}
use Rattle.window_parts.proofs.laws.rebuilt_nets_fit.Goals as goal

pub returns : goal.returns
returns c = λ m steps count net parts rebuilt. fits c.values_exist.ensures m net parts rebuilt.keeps
