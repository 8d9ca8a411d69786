use Rattle.std.proofs.Common.{arith, ◌∙◌, ap, drop}
use Rattle.pin_pool.specs.Pins.{Pins, list_of}
use Rattle.pin_pool.specs.declared.links.Side.TheVariants.{Gate}
use Rattle.pin_pool.proofs.PoolLemmas.{ring-length}
use Rattle.pin_pool.proofs.Fingers.{drop-few, few-from, ring-from, within-there}
use Rattle.pin_pool.proofs.store.Store.inputs_from.Goals as goal

pub invariant_of-result : goal.invariant_of-result
invariant_of-result c =
    let inside = c.self.inside in
    let r = c.self.invariant.gate_lists in
    let there = rw (← c.self.view_is) at c.requires in
    rw (ring-from Gate inside.pins.items c.deref.result.now inside.gates.items c.args.at.gate c.args.at.position c.args.at.pin.0 r there c.deref.ensures.value, c.deref.ensures.value)
    (few-from Gate inside.pins.items inside.gates.items c.args.at.gate c.args.at.position c.args.at.pin.0 r there)

pub returns-clause-list : goal.returns-clause-list
returns-clause-list c =
    let inside = c.self.inside in
    let r = c.self.invariant.gate_lists in
    let there = rw (← c.self.view_is) at c.requires in
    ring-from Gate inside.pins.items c.deref.result.now inside.gates.items c.args.at.gate c.args.at.position c.args.at.pin.0 r there c.deref.ensures.value
    ∙ ap (λ (v : Pins). drop c.args.at.position (list_of v.inputs c.args.at.gate)) c.self.view_is

pub returns-clause-few : goal.returns-clause-few
returns-clause-few c =
    let inside = c.self.inside in
    let r = c.self.invariant.gate_lists in
    let there = rw (← c.self.view_is) at c.requires in
    rw (ring-from Gate inside.pins.items c.deref.result.now inside.gates.items c.args.at.gate c.args.at.position c.args.at.pin.0 r there c.deref.ensures.value)
    (drop-few _ c.args.at.position 4294967295 (omega (arith, c.self.invariant.few, ring-length Gate inside.pins.items inside.gates.items c.args.at.gate r (within-there _ c.args.at.gate c.args.at.position c.args.at.pin.0 there))))
