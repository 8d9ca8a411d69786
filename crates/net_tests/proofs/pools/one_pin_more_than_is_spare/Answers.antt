use Rattle.std.proofs.Common.{arith}
use Rattle.std.specs.FinSet as finset
use Rattle.std.specs.Ordering.{nat_cmp}
use Rattle.net_tests.proofs.pools.one_pin_more_than_is_spare.Goals as goal

pub reserve-requires-clause-pins : goal.reserve-requires-clause-pins
reserve-requires-clause-pins g c = rw (c.new-pool.ensures.taken, finset.len-empty nat_cmp) (omega arith)
