use Rattle.std.proofs.Common.{arith}
use Rattle.pin_pool.proofs.PoolLemmas.{IsPool-rings, NoneFree-set, has-put_free, taken-within}
use Rattle.pin_pool.proofs.store.Store.relink.Goals as goal

pub relink-requires-clause-pin : goal.relink-requires-clause-pin
relink-requires-clause-pin c =
    let loose = rw (← c.self.view_is) at c.requires.loose in
    omega (arith, (taken-within _ _ _ loose.0).0, c.deref_mut.ensures.len, c.self.inside.pins.ok.0)

pub invariant_of-self : goal.invariant_of-self
invariant_of-self c =
    let loose = rw (← c.self.view_is) at c.requires.loose in
    let out = (taken-within _ _ _ loose.0).1 in
    let inside = c.self.inside in
    let gate = rw (← c.self.view_is) at c.requires.gate in
    let driver = rw (← c.self.view_is) at c.requires.driver in
    IsPool-rings inside.pins.items c.deref_mut.result.now c.relink.new.pins inside.gates.items c.deref_mut-2.result.now c.relink.new.gates inside.drivers.items c.deref_mut-3.result.now c.relink.new.drivers _ _ _ inside.free.items _ c.self.invariant
    c.deref_mut.ensures.value c.deref_mut-2.ensures.value c.deref_mut-3.ensures.value c.relink.auto.pins c.relink.auto.gates c.relink.auto.drivers inside.pins.ok.0 inside.gates.ok.0 inside.drivers.ok.0
    c.relink.ensures.gate_lists c.relink.ensures.driver_lists
    (λ none. NoneFree-set _ _ c.args.slot.gate _ _ c.relink.ensures.inputs none (λ q h. has-put_free _ _ _ c.args.pin.0 q _ out (λ r k. none c.args.slot.gate r (rw (c.deref_mut.ensures.value, c.deref_mut-2.ensures.value) gate) k) h))
    (λ none. NoneFree-set _ _ c.args.slot.driver _ _ c.relink.ensures.fanouts none (λ q h. has-put_free _ _ _ c.args.pin.0 q _ out (λ r k. none c.args.slot.driver r (rw (c.deref_mut.ensures.value, c.deref_mut-3.ensures.value) driver) k) h))
