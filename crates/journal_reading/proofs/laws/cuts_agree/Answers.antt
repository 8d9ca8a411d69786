use Rattle.journal_reading.proofs.Cutting.{cuts_agree}
use Rattle.journal_reading.proofs.laws.cuts_agree.Goals as goal

pub returns : goal.returns
returns c = cuts_agree c.cuts_agree.ensures c.cuts_agree-2.ensures
