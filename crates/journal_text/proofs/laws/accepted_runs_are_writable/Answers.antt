use Rattle.journal_text.proofs.AcceptedRuns.{runs_writable}
use Rattle.journal_text.proofs.laws.accepted_runs_are_writable.Goals as goal

pub returns : goal.returns
returns c = runs_writable
