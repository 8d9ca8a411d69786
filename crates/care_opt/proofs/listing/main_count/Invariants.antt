use Rattle.std.proofs.Common.{drop, length, ◌+◌, ◌≡◌, ◌≤◌}
use Rattle.care_opt.specs.Inner.Leading.{leading}
use Rattle.care_opt.proofs.listing.main_count.Given as goal

abbrev pub invariant-loop-fault : goal.invariant-loop-fault
invariant-loop-fault l = (l.count ≡ l.fault-index) × ((l.count ≤ length l.faults) × (leading l.bound l.faults ≡ l.count + leading l.bound (drop l.count l.faults)))
