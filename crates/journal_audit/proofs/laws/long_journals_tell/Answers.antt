use Rattle.journal_audit.proofs.Excluding.{long_journals_tell}
use Rattle.journal_audit.proofs.laws.long_journals_tell.Goals as goal

pub returns : goal.returns
returns c = long_journals_tell c.journals_are_one.ensures c.records_replay.ensures c.replays_accept.ensures
