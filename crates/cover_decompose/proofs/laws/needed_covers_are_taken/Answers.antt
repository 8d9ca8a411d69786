use Rattle.cover_decompose.proofs.Counted.{taken_are_needed, taken_in_order}
use Rattle.cover_decompose.proofs.laws.needed_covers_are_taken.Goals as goal

pub returns-clause-taken : goal.returns-clause-taken
returns-clause-taken c = λ m d w r. taken_are_needed m d (record { formed = w; all = r; follow = c.ranks_follow.ensures.follow m; small = c.ranks_follow.ensures.small m })

pub returns-clause-order : goal.returns-clause-order
returns-clause-order c = λ m j d w r there x read. taken_in_order m j d x (record { formed = w; all = r; follow = c.ranks_follow.ensures.follow m; small = c.ranks_follow.ensures.small m }) there read
