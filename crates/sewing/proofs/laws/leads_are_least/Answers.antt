use Rattle.sewing.proofs.Tokens.{leads-are-least}
use Rattle.sewing.proofs.laws.leads_are_least.Goals as goal

pub returns : goal.returns
returns c = leads-are-least
