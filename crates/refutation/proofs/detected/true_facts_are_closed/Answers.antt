use Rattle.refutation.proofs.TrueFacts.{true_facts_are_closed}
use Rattle.refutation.proofs.detected.true_facts_are_closed.Goals as goal

pub returns : goal.returns
returns c = true_facts_are_closed c.lines_hold.ensures
