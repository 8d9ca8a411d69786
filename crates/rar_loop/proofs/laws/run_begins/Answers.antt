use Rattle.rar_loop.proofs.RunLaws.{run_begins}
use Rattle.rar_loop.proofs.laws.run_begins.Goals as goal

pub returns : goal.returns
returns c = run_begins c.pairs_are_one.ensures.pairs c.pairs_are_one.ensures.whole
