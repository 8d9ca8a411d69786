use Rattle.std.proofs.Common.{◌≡◌, false, ap}
use Rattle.pin_pool.specs.Inner.Links.{link_of}
use Rattle.pin_pool.proofs.PoolLemmas.{IsPool-drivers, NoneFree-moved_last, is-place}
use Rattle.pin_pool.specs.declared.links.Side.TheVariants.{Gate}
use Rattle.pin_pool.specs.Ring.{has}
use Rattle.pin_pool.proofs.store.Store.move_to_driver.Goals as goal

pub invariant_of-self : goal.invariant_of-self
invariant_of-self c =
    let inside = c.self.inside in
    let r = c.self.invariant in
    let linked = rw (← c.self.view_is) at c.requires.linked in
    let driver = rw (← c.self.view_is) at c.requires.driver in
    let out : has c.args.pin.0 inside.free.items ≡ false = r.drivers_taken linked.1.0 c.args.pin.0 linked.1.1 linked.1.2 in
    IsPool-drivers inside.pins.items c.deref_mut.result.now c.move_last-place.new.pins inside.gates.items inside.drivers.items c.deref_mut-2.result.now c.move_last-place.new.ends _ _ inside.free.items _ r
    c.deref_mut.ensures.value c.deref_mut-2.ensures.value c.move_last-place.auto.pins c.move_last-place.auto.ends inside.pins.ok.0 inside.drivers.ok.0
    c.move_last-place.ensures.there c.move_last-place.ensures.valid
    (NoneFree-moved_last _ _ _ c.args.driver _ c.move_last-place.ensures.lists out (rw (c.deref_mut.ensures.value, c.deref_mut-2.ensures.value) driver))

pub returns-clause-in_gate : goal.returns-clause-in_gate
returns-clause-in_gate c =
    let linked = rw (← c.self.view_is) at c.requires.linked in
    rw (← c.self.view_is, c.pin_with_number.ensures) (is-place Gate c.self.inside.pins.items c.self.inside.gates.items c.args.pin.0 c.index.result.now.gate c.index.result.now c.self.invariant.gate_lists linked.0 (ap (link_of Gate) c.index.ensures))
