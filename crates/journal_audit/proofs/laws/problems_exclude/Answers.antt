use Rattle.journal_audit.proofs.Excluding.{problems_exclude}
use Rattle.journal_audit.proofs.laws.problems_exclude.Goals as goal

pub returns : goal.returns
returns c = problems_exclude c.journals_are_one.ensures c.records_replay.ensures c.replays_accept.ensures
