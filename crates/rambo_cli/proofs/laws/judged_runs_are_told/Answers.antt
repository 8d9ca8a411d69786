use Rattle.rambo_cli.proofs.Complete.{judged_runs_are_told}
use Rattle.rambo_cli.proofs.laws.judged_runs_are_told.Goals as goal

pub returns : goal.returns
returns c = judged_runs_are_told
