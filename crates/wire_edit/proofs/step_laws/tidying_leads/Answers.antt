use Rattle.wire_edit.proofs.Falling.{tidying_reaches, tidies_to_one, tidied_keeps}
use Rattle.wire_edit.proofs.step_laws.tidying_leads.Goals as goal

pub returns-clause-reaches : goal.returns-clause-reaches
returns-clause-reaches c = tidying_reaches

pub returns-clause-one : goal.returns-clause-one
returns-clause-one c = λ net one other. tidies_to_one

pub returns-clause-keeps : goal.returns-clause-keeps
returns-clause-keeps c = λ net after. tidied_keeps
