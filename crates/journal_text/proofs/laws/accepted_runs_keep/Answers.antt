use Rattle.journal_text.proofs.AcceptedRuns.{runs_keep}
use Rattle.journal_text.proofs.laws.accepted_runs_keep.Goals as goal

pub returns : goal.returns
returns c = runs_keep c.values_exist.ensures c.accepted_steps_keep.ensures
