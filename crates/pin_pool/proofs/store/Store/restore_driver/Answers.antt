use Rattle.std.proofs.Common.{◌≡◌, false}
use Rattle.pin_pool.proofs.PoolLemmas.{IsPool-drivers, NoneFree-moved_after}
use Rattle.pin_pool.specs.Ring.{has}
use Rattle.pin_pool.proofs.store.Store.restore_driver.Goals as goal

pub invariant_of-self : goal.invariant_of-self
invariant_of-self c =
    let inside = c.self.inside in
    let r = c.self.invariant in
    let linked = rw (← c.self.view_is) at c.requires.linked in
    let driver = rw (← c.self.view_is) at c.requires.driver in
    let out : has c.args.pin.0 inside.free.items ≡ false = r.drivers_taken linked.1.0 c.args.pin.0 linked.1.1 linked.1.2 in
    IsPool-drivers inside.pins.items c.deref_mut.result.now c.move_after.new.pins inside.gates.items inside.drivers.items c.deref_mut-2.result.now c.move_after.new.ends _ _ inside.free.items _ r
    c.deref_mut.ensures.value c.deref_mut-2.ensures.value c.move_after.auto.pins c.move_after.auto.ends inside.pins.ok.0 inside.drivers.ok.0
    c.move_after.ensures.there c.move_after.ensures.valid
    (NoneFree-moved_after _ _ _ c.args.slot.driver _ _ c.move_after.ensures.lists out (rw (c.deref_mut.ensures.value, c.deref_mut-2.ensures.value) driver))
