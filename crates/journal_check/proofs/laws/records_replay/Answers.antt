use Rattle.journal_check.proofs.FollowLaws.{records_replay}
use Rattle.journal_check.proofs.laws.records_replay.Goals as goal

pub returns : goal.returns
returns c = records_replay c.refusals_agree.ensures.none c.refusals_agree.ensures.one
