use Rattle.std.proofs.Common.{arith}
use Rattle.pin_pool.proofs.PoolLemmas.{IsPool-rings, NoneFree-set, has-push_free, taken-within}
use Rattle.pin_pool.proofs.store.Store.link.Goals as goal

pub link-requires-clause-pin : goal.link-requires-clause-pin
link-requires-clause-pin c =
    let loose = rw (← c.self.view_is) at c.requires.loose in
    omega (arith, (taken-within _ _ _ loose.0).0, c.deref_mut.ensures.len, c.self.inside.pins.ok.0)

pub invariant_of-self : goal.invariant_of-self
invariant_of-self c =
    let loose = rw (← c.self.view_is) at c.requires.loose in
    let out = (taken-within _ _ _ loose.0).1 in
    let inside = c.self.inside in
    let gate = rw (← c.self.view_is) at c.requires.gate in
    let driver = rw (← c.self.view_is) at c.requires.driver in
    IsPool-rings inside.pins.items c.deref_mut.result.now c.link.new.pins inside.gates.items c.deref_mut-2.result.now c.link.new.gates inside.drivers.items c.deref_mut-3.result.now c.link.new.drivers _ _ _ inside.free.items _ c.self.invariant
    c.deref_mut.ensures.value c.deref_mut-2.ensures.value c.deref_mut-3.ensures.value c.link.auto.pins c.link.auto.gates c.link.auto.drivers inside.pins.ok.0 inside.gates.ok.0 inside.drivers.ok.0
    c.link.ensures.gate_lists c.link.ensures.driver_lists
    (λ none. NoneFree-set _ _ c.args.gate _ _ c.link.ensures.inputs none (λ q h. has-push_free _ c.args.pin.0 q _ out (λ r k. none c.args.gate r (rw (c.deref_mut.ensures.value, c.deref_mut-2.ensures.value) gate) k) h))
    (λ none. NoneFree-set _ _ c.args.driver _ _ c.link.ensures.fanouts none (λ q h. has-push_free _ c.args.pin.0 q _ out (λ r k. none c.args.driver r (rw (c.deref_mut.ensures.value, c.deref_mut-3.ensures.value) driver) k) h))
