use Rattle.wire_edit.proofs.LiveNodes.{numbers_grow, live_counted, added_last, others_stay}
use Rattle.wire_edit.proofs.step_laws.steps_grow.Goals as goal

pub returns-clause-numbers : goal.returns-clause-numbers
returns-clause-numbers c = numbers_grow

pub returns-clause-live : goal.returns-clause-live
returns-clause-live c = live_counted

pub returns-clause-last : goal.returns-clause-last
returns-clause-last c = added_last

pub returns-clause-others : goal.returns-clause-others
returns-clause-others c = others_stay
