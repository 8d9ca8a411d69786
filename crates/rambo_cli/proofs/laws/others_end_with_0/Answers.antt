use Rattle.rambo_cli.proofs.Comparisons.{others_end_with_0}
use Rattle.rambo_cli.proofs.laws.others_end_with_0.Goals as goal

pub returns : goal.returns
returns c = others_end_with_0
