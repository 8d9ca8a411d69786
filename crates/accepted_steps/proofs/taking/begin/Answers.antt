use Rattle.accepted_steps.proofs.Leading.{stands_first}
use Rattle.accepted_steps.proofs.taking.begin.Goals as goal

pub returns-in-Ok-clause-taken : goal.returns-in-Ok-clause-taken
returns-in-Ok-clause-taken c = stands_first c.args.model.now c.args.budget c.in-Ok.replay c.args.taking.now.steps.items c.in-Ok.ensures.begins c.requires.none
