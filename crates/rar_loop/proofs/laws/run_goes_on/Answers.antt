use Rattle.rar_loop.proofs.RunLaws.{run_goes_on}
use Rattle.rar_loop.proofs.laws.run_goes_on.Goals as goal

pub returns : goal.returns
returns c = run_goes_on c.pairs_are_one.ensures.pairs c.pairs_are_one.ensures.whole
