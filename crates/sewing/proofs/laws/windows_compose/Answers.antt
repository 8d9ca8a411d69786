use Rattle.sewing.proofs.Composed.{compose, compose-with}
use Rattle.sewing.proofs.laws.windows_compose.Goals as goal

pub returns-clause-with_lead : goal.returns-clause-with_lead
returns-clause-with_lead c = compose-with

pub returns-clause-least : goal.returns-clause-least
returns-clause-least c = compose
