use Rattle.journal_binary.proofs.Cuts.{cuts_agree}
use Rattle.journal_binary.proofs.laws.cuts_agree.Goals as goal

pub returns : goal.returns
returns c = cuts_agree
