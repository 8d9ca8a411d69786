use Rattle.std.proofs.Common.{ap, ◌∙◌, arith}
use Rattle.std.specs.FinSet as set
use Rattle.std.specs.Ordering.{nat_cmp}
use Rattle.net_tests.proofs.pools.script.Goals as goal

pub reserve-requires-clause-pins : goal.reserve-requires-clause-pins
reserve-requires-clause-pins g c = omega (arith, ap (λ (s : set.FinSet nat_cmp). set.len s) c.new-pool.ensures.taken ∙ set.len-empty nat_cmp)
