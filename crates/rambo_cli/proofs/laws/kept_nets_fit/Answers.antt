use Rattle.rambo_cli.proofs.Composed.{fits}
use Rattle.rambo_cli.proofs.laws.kept_nets_fit.Goals as goal

pub returns : goal.returns
returns c = λ m last parts kept. fits c.values_exist.ensures m last parts kept
