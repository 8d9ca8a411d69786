use Rattle.proof_check.proofs.Hiding.{flaws_hide}
use Rattle.proof_check.proofs.laws.flaws_hide.Goals as goal

pub returns : goal.returns
returns c = flaws_hide c.refusals_agree.ensures.none c.edges_are_few.ensures.counted c.answers_agree.ensures.made
