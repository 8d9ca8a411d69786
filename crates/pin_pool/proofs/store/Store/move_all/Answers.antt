use Rattle.std.proofs.Common.{◌<◌, length, arith}
use Rattle.std.proofs.lemmas.Bool.{false≢true}
use Rattle.std.proofs.lemmas.Bool.Decides.{nat_tests}
use Rattle.pin_pool.specs.Inner.Links.{lists_of, list_at}
use Rattle.pin_pool.specs.declared.links.Side.TheVariants.{Driver}
use Rattle.pin_pool.proofs.PoolLemmas.{IsPool-drivers, NoneFree-both, has-append}
use Rattle.pin_pool.proofs.store.Store.move_all.Goals as goal

pub invariant_of-self : goal.invariant_of-self
invariant_of-self c =
    let inside = c.self.inside in
    let r = c.self.invariant in
    let from = rw (← c.self.view_is) at c.requires.from in
    let to = rw (← c.self.view_is) at c.requires.to in
    let from0 : c.args.from < length (lists_of Driver c.deref_mut.result.now c.deref_mut-2.result.now) = rw (c.deref_mut.ensures.value, c.deref_mut-2.ensures.value) from in
    let to0 : c.args.to < length (lists_of Driver c.deref_mut.result.now c.deref_mut-2.result.now) = rw (c.deref_mut.ensures.value, c.deref_mut-2.ensures.value) to in
    IsPool-drivers inside.pins.items c.deref_mut.result.now c.move_all-count.new.pins inside.gates.items inside.drivers.items c.deref_mut-2.result.now c.move_all-count.new.ends _ _ inside.free.items _ r
    c.deref_mut.ensures.value c.deref_mut-2.ensures.value c.move_all-count.auto.pins c.move_all-count.auto.ends inside.pins.ok.0 inside.drivers.ok.0
    c.move_all-count.ensures.there c.move_all-count.ensures.valid
    (λ none. NoneFree-both _ _ c.args.from c.args.to _ _ _ c.move_all-count.ensures.lists none
    (λ q h. absurd (false≢true h))
    (λ q h. grind (arith, nat_tests, has-append (list_at (lists_of Driver c.deref_mut.result.now c.deref_mut-2.result.now) c.args.to) (list_at (lists_of Driver c.deref_mut.result.now c.deref_mut-2.result.now) c.args.from) q, none c.args.to q to0, none c.args.from q from0)))
