use Rattle.rambo_cli.proofs.Complete.{good_runs_are_done}
use Rattle.rambo_cli.proofs.laws.good_runs_are_done.Goals as goal

pub returns : goal.returns
returns c = good_runs_are_done c.reads_once.ensures c.problems_exclude.ensures c.journals_are_one.ensures
