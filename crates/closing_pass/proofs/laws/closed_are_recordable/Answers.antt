use Rattle.closing_pass.proofs.Sourced.{closed_recordable}
use Rattle.closing_pass.proofs.laws.closed_are_recordable.Goals as goal

pub returns : goal.returns
returns c = closed_recordable c.order_tells.ensures.tidy c.fixes_lower.ensures.tidy
