use Rattle.rm_model.proofs.RankingLemmas.{first-missing}
use Rattle.rm_model.proofs.ranking.all_ranks.Goals as goal

pub returns-in-None-clause-refused : goal.returns-in-None-clause-refused
returns-in-None-clause-refused c = first-missing c.args.ranks.now c.loop-place.all.items c.loop-place.place c.loop-place.invariant c.loop-place-test.true c.in-None.is
