use Rattle.refutation_check.proofs.OneRefusal.{accepted_not_refused, refusals_agree}
use Rattle.refutation_check.proofs.laws.refusals_agree.Goals as goal

pub returns-clause-one : goal.returns-clause-one
returns-clause-one c = refusals_agree c.lines_give_one.ensures

pub returns-clause-none : goal.returns-clause-none
returns-clause-none c = accepted_not_refused c.lines_give_one.ensures c.readings_accept.ensures
