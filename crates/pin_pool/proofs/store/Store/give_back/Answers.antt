use Rattle.std.proofs.Common.{refl, arith, length-append}
use Rattle.pin_pool.proofs.PoolLemmas.{IsPool-push, free-room, taken-within, taken-push}
use Rattle.pin_pool.proofs.store.Store.give_back.Goals as goal

pub unreachable-requires : goal.unreachable-requires
unreachable-requires c =
    let loose = rw (← c.self.view_is) at c.requires in
    let free = taken-within _ _ _ loose.0 in
    let room = free-room _ _ _ _ _ _ c.self.invariant free.0 free.1 in
    omega (arith, room, c.self.inside.free.ok.0, c.in-Err.ensures.full)

pub invariant_of-self : goal.invariant_of-self
invariant_of-self c =
    let loose = rw (← c.self.view_is) at c.requires in
    let free = taken-within _ _ _ loose.0 in
    rw c.in-Ok.ensures.items (IsPool-push _ _ _ _ _ _ _ c.self.invariant free.0 free.1 loose.1 loose.2 c.push.ensures.capacity)

pub returns : goal.returns
returns c =
    rw (c.in-Ok.ensures.items, ← c.self.view_is, taken-push, length-append) refl
