use Rattle.std.proofs.Common.{length, ◌-◌, ◌≡◌, ◌≤◌, take, Some}
use Rattle.rm_model.specs.Inner.Numbers.{rank_over}
use Rattle.rm_model.proofs.rank_search.look_on.Given as goal

abbrev pub invariant-loop-looked : goal.invariant-loop-looked
invariant-loop-looked l = (l.looked.count ≤ length l.drivers) × (rank_over l.ranks (take l.looked.count l.drivers) ≡ Some l.looked.least)

abbrev pub decreases-loop-looked : goal.decreases-loop-looked
decreases-loop-looked l = length l.drivers - l.looked.count
