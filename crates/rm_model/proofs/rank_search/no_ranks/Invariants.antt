use Rattle.std.proofs.Common.{◌≡◌, None, replicate}
use Rattle.rm_model.proofs.rank_search.no_ranks.Given as goal

abbrev pub invariant-loop : goal.invariant-loop
invariant-loop l = l.ranks.items ≡ replicate l.counter None
