use Rattle.pin_pool.proofs.RingsOf.{valid-of}
use Rattle.pin_pool.proofs.pool_calls.Pool.fanouts.Goals as goal

pub returns-clause-valid : goal.returns-clause-valid
returns-clause-valid c = rw (← c.self.view_is) (valid-of _ c.tell_kept.ensures c.self.invariant.0)
