use Rattle.closing_pass.proofs.Sourced.{sourced}
use Rattle.closing_pass.proofs.laws.tidy_nets_have_sources.Goals as goal

pub returns : goal.returns
returns c = sourced c.order_tells.ensures.tidy c.fixes_lower.ensures.tidy
