use Rattle.pin_pool.proofs.Calls.{held-by}
use Rattle.pin_pool.proofs.RingsOf.{valid-of}
use Rattle.pin_pool.proofs.pool_calls.Pool.driver_of.Goals as goal

pub returns-clause-valid : goal.returns-clause-valid
returns-clause-valid c = rw (← c.self.view_is) (valid-of _ c.tell_kept.ensures c.self.invariant.0)

pub driver_of-requires : goal.driver_of-requires
driver_of-requires c = held-by c.self.inside.store c.args.pin.0 c.self.invariant.0 (rw (← c.self.view_is) at c.requires)
