use Rattle.pin_pool.specs.declared.links.Side.TheVariants.{Gate, Driver}
use Rattle.pin_pool.proofs.PoolLemmas.{IsPool-new, taken-new, lists-new}
use Rattle.pin_pool.proofs.store.Store.new.Goals as goal

pub invariant_of-result : goal.invariant_of-result
invariant_of-result c = rw (c.new.ensures.items, c.new-2.ensures.items, c.new-3.ensures.items, c.new-4.ensures.items) (IsPool-new _)

pub returns-clause-inputs : goal.returns-clause-inputs
returns-clause-inputs c = rw c.new-3.ensures.items (lists-new Gate _)

pub returns-clause-fanouts : goal.returns-clause-fanouts
returns-clause-fanouts c = rw c.new-4.ensures.items (lists-new Driver _)

pub returns-clause-taken : goal.returns-clause-taken
returns-clause-taken c = rw (c.new.ensures.items, c.new-2.ensures.items) taken-new
