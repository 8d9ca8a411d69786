use Rattle.rambo_cli.proofs.Comparisons.{compared_runs_are_told}
use Rattle.rambo_cli.proofs.laws.compared_runs_are_told.Goals as goal

pub returns : goal.returns
returns c = compared_runs_are_told
