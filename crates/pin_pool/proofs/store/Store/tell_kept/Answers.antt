use Rattle.pin_pool.proofs.RoomLemmas.{valid-pool}
use Rattle.pin_pool.proofs.store.Store.tell_kept.Goals as goal

pub returns : goal.returns
returns c = rw (← c.self.view_is) (valid-pool _ _ _ _ _ c.self.invariant)
