use Rattle.journal_check.proofs.TellLaws.{accepted_tell}
use Rattle.journal_check.proofs.laws.accepted_journals_tell.Goals as goal

pub returns : goal.returns
returns c = λ m budget records last a. accepted_tell c.accepted_runs_keep.ensures m budget records last (c.decompositions_are_formed.ensures.formed m) a
