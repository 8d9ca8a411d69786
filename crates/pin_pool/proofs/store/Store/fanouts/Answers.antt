use Rattle.std.proofs.Common.{arith, ◌∙◌, ap}
use Rattle.pin_pool.specs.Pins.{Pins, list_of}
use Rattle.pin_pool.specs.declared.links.Side.TheVariants.{Driver}
use Rattle.pin_pool.proofs.PoolLemmas.{ring-few, ring-length, ring-walk}
use Rattle.pin_pool.proofs.store.Store.fanouts.Goals as goal

pub invariant_of-result : goal.invariant_of-result
invariant_of-result c =
    let inside = c.self.inside in
    let r = c.self.invariant.driver_lists in
    let within = rw (← c.self.view_is) at c.requires in
    rw (ring-walk Driver inside.pins.items c.deref.result.now inside.drivers.items c.args.driver c.index.result.now r within c.deref.ensures.value c.index.ensures, c.deref.ensures.value)
    (ring-few Driver inside.pins.items inside.drivers.items c.args.driver r within)

pub returns-clause-list : goal.returns-clause-list
returns-clause-list c =
    let inside = c.self.inside in
    let r = c.self.invariant.driver_lists in
    let within = rw (← c.self.view_is) at c.requires in
    ring-walk Driver inside.pins.items c.deref.result.now inside.drivers.items c.args.driver c.index.result.now r within c.deref.ensures.value c.index.ensures
    ∙ ap (λ (v : Pins). list_of v.fanouts c.args.driver) c.self.view_is

pub returns-clause-few : goal.returns-clause-few
returns-clause-few c =
    let inside = c.self.inside in
    let r = c.self.invariant.driver_lists in
    let within = rw (← c.self.view_is) at c.requires in
    rw (ring-walk Driver inside.pins.items c.deref.result.now inside.drivers.items c.args.driver c.index.result.now r within c.deref.ensures.value c.index.ensures)
    (omega (arith, c.self.invariant.few, ring-length Driver inside.pins.items inside.drivers.items c.args.driver r within))
