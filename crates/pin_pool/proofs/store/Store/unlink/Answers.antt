use Rattle.pin_pool.proofs.PoolLemmas.{IsPool-rings, NoneFree-without}
use Rattle.pin_pool.proofs.store.Store.unlink.Goals as goal

pub invariant_of-self : goal.invariant_of-self
invariant_of-self c =
    let inside = c.self.inside in
    IsPool-rings inside.pins.items c.deref_mut.result.now c.unlink.new.pins inside.gates.items c.deref_mut-2.result.now c.unlink.new.gates inside.drivers.items c.deref_mut-3.result.now c.unlink.new.drivers _ _ _ inside.free.items _ c.self.invariant
    c.deref_mut.ensures.value c.deref_mut-2.ensures.value c.deref_mut-3.ensures.value c.unlink.auto.pins c.unlink.auto.gates c.unlink.auto.drivers inside.pins.ok.0 inside.gates.ok.0 inside.drivers.ok.0
    c.unlink.ensures.gate_lists c.unlink.ensures.driver_lists
    (NoneFree-without _ _ _ _ c.unlink.ensures.inputs)
    (NoneFree-without _ _ _ _ c.unlink.ensures.fanouts)
