use Rattle.std.proofs.Common.{subst, sym}
use Rattle.rambo_cli.specs.Inner.Equal.{IsUnlikeFor}
use Rattle.rambo_cli.proofs.Compared.{unlike_for}
use Rattle.rambo_cli.proofs.comparing.decide_pair.Goals as goal

pub returns-in-Err-clause-unlike : goal.returns-in-Err-clause-unlike
returns-in-Err-clause-unlike c =
    subst (IsUnlikeFor c.args.pair.now.model c.args.pair.now.other) (sym c.from.ensures) (unlike_for c.args.pair.now.model c.args.pair.now.other c.in-Err.refusal c.requires.few c.requires.second_few c.in-Err.ensures.refused)
