use Rattle.std.proofs.Common.{arith, ap, ◌∙◌}
use Rattle.std.proofs.lemmas.Bool.Decides.{nat_tests}
use Rattle.pin_pool.specs.Ring.{has}
use Rattle.pin_pool.proofs.PoolLemmas.{IsPool-pop, popped, last-free, has-push, now-taken, free-unlisted}
use Rattle.pin_pool.proofs.store.Store.take.Goals as goal

pub invariant_of-self-2 : goal.invariant_of-self-2
invariant_of-self-2 c = IsPool-pop _ _ _ _ _ _ _ _ c.self.invariant c.in-Some.ensures.items (omega (arith, c.in-Some.ensures.capacity))

pub returns-clause-fresh : goal.returns-clause-fresh
returns-clause-fresh c = rw (← c.self.view_is) (last-free _ _ _ _ c.in-Some.ensures.items)

pub returns-clause-taken : goal.returns-clause-taken
returns-clause-taken c = rw (← c.self.view_is) (popped _ _ _ _ _ _ _ c.self.invariant c.in-Some.ensures.items)

pub returns-clause-loose : goal.returns-clause-loose
returns-clause-loose c =
    let r = c.self.invariant in
    let free = ap (has c.in-Some.pin) c.in-Some.ensures.items ∙ has-push c.pop.new.self.items c.in-Some.pin c.in-Some.pin ∙ grind (arith, nat_tests) in
    (now-taken _ _ _ _ _ _ _ r c.in-Some.ensures.items, free-unlisted _ _ _ r.gates_taken free, free-unlisted _ _ _ r.drivers_taken free)
