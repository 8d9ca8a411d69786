use Rattle.pin_pool.proofs.RingsOf.{rings-new}
use Rattle.pin_pool.proofs.pool_calls.Pool.new.Goals as goal

pub returns-clause-rings : goal.returns-clause-rings
returns-clause-rings c = rings-new c.new-store.result c.new-store.ensures.inputs c.new-store.ensures.fanouts c.new-store.ensures.taken
