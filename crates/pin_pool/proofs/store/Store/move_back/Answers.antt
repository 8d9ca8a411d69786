use Rattle.std.proofs.Common.{◌<◌, length}
use Rattle.pin_pool.specs.Inner.Links.{lists_of}
use Rattle.pin_pool.specs.declared.links.Side.TheVariants.{Driver}
use Rattle.pin_pool.proofs.PoolLemmas.{IsPool-drivers, NoneFree-both, has-from_take, has-from_drop}
use Rattle.pin_pool.proofs.store.Store.move_back.Goals as goal

pub invariant_of-self : goal.invariant_of-self
invariant_of-self c =
    let inside = c.self.inside in
    let r = c.self.invariant in
    let from = rw (← c.self.view_is) at c.requires.from in
    let to = rw (← c.self.view_is) at c.requires.to in
    let from0 : c.args.splice.from < length (lists_of Driver c.deref_mut.result.now c.deref_mut-2.result.now) = rw (c.deref_mut.ensures.value, c.deref_mut-2.ensures.value) from in
    let to0 : c.args.splice.to < length (lists_of Driver c.deref_mut.result.now c.deref_mut-2.result.now) = rw (c.deref_mut.ensures.value, c.deref_mut-2.ensures.value) to in
    IsPool-drivers inside.pins.items c.deref_mut.result.now c.move_back.new.pins inside.gates.items inside.drivers.items c.deref_mut-2.result.now c.move_back.new.ends _ _ inside.free.items _ r
    c.deref_mut.ensures.value c.deref_mut-2.ensures.value c.move_back.auto.pins c.move_back.auto.ends inside.pins.ok.0 inside.drivers.ok.0
    c.move_back.ensures.there c.move_back.ensures.valid
    (λ none. NoneFree-both _ _ c.args.splice.to c.args.splice.from _ _ _ c.move_back.ensures.lists none
    (λ q h. none c.args.splice.to q to0 (has-from_take _ _ q h))
    (λ q h. none c.args.splice.to q to0 (has-from_drop _ _ q h)))
