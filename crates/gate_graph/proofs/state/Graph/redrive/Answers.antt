use Rattle.std.specs.FinSet as finset
use Rattle.std.proofs.Common.{arith, refl, sym, Some, ◌≡◌, ap}
use Rattle.gate_graph.specs.Circuit.{Circuit}
use Rattle.gate_graph.proofs.Redriven.{redrives}
use Rattle.std.specs.Prelude.{slice_get}
use Rattle.std.proofs.lemmas.Bool.{ne_eqb}
use Rattle.pin_pool.specs.Pins.{list_of}
use Rattle.gate_graph.specs.Circuit.{gate_pins}
use Rattle.gate_graph.proofs.Ranked.{not-zero}
use Rattle.gate_graph.proofs.Fanned.{reader-moves}
use Rattle.gate_graph.proofs.LeadOns.{live-in}
use Rattle.gate_graph.proofs.KindAt.{kind-within}
use Rattle.gate_graph.proofs.HeldPins.{holds-by}
use Rattle.pin_pool.proofs.Public.{linked-same}
use Rattle.std.proofs.Common.{List, length}
use Rattle.gate_graph.specs.Holds.{held}
use Rattle.gate_graph.specs.declared.undo_list.Undo.{Undo}
use Rattle.std.specs.FinSet as finset
use Rattle.pin_pool.specs.Rings.{Rings}
use Rattle.gate_graph.specs.Inner.Circuit.{IsGraph}
use Rattle.gate_graph.proofs.state.Graph.redrive.Goals as goal

pub redrive_pin-slot-requires-clause-to : goal.redrive_pin-slot-requires-clause-to
redrive_pin-slot-requires-clause-to c =
    let i = c.self.inside in
    let v : Circuit = record { kinds = i.kinds.items; pool = i.pool; epoch = i.epoch } in
    omega (arith, kind-within i.kinds.items c.args.driver.0 (live-in v c.args.driver.0 (rw (← c.self.view_is) at c.requires.driver)), c.self.invariant.0.room)

pub invariant_of-self : goal.invariant_of-self
invariant_of-self c =
    let i = c.self.inside in
    let v : Circuit = record { kinds = i.kinds.items; pool = i.pool; epoch = i.epoch } in
    let w : Circuit = record { kinds = i.kinds.items; pool = c.redrive_pin-slot.new.pool; epoch = i.epoch } in
    let a = redrives v w c.args.gate.0 c.args.position c.args.driver.0 c.pin_of-pin.result c.redrive_pin-slot.result refl c.redrive_pin-slot.ensures.rings (rw (← c.self.view_is) at c.pin_of-pin.ensures.rings) c.tell_rings.ensures.rings c.self.invariant.0.wired (rw (← c.self.view_is) at c.requires.driver) c.requires.apart (rw (← c.self.view_is) at c.requires.path) (rw (← c.self.view_is) at c.pin_of-pin.ensures.pin) c.redrive_pin-slot.ensures.stood in
    (record { wired = a.wired; room = omega (arith, c.self.invariant.0.room, c.redrive_pin-slot.ensures.nodes); few = c.self.invariant.0.few }, c.self.invariant.1)

pub returns-clause-net : goal.returns-clause-net
returns-clause-net c =
    let i = c.self.inside in
    let v : Circuit = record { kinds = i.kinds.items; pool = i.pool; epoch = i.epoch } in
    let w : Circuit = record { kinds = i.kinds.items; pool = c.redrive_pin-slot.new.pool; epoch = i.epoch } in
    let a = redrives v w c.args.gate.0 c.args.position c.args.driver.0 c.pin_of-pin.result c.redrive_pin-slot.result refl c.redrive_pin-slot.ensures.rings (rw (← c.self.view_is) at c.pin_of-pin.ensures.rings) c.tell_rings.ensures.rings c.self.invariant.0.wired (rw (← c.self.view_is) at c.requires.driver) c.requires.apart (rw (← c.self.view_is) at c.requires.path) (rw (← c.self.view_is) at c.pin_of-pin.ensures.pin) c.redrive_pin-slot.ensures.stood in
    rw (← c.self.view_is) a.net

pub returns-clause-undos : goal.returns-clause-undos
returns-clause-undos c =
    let i = c.self.inside in
    let v : Circuit = record { kinds = i.kinds.items; pool = i.pool; epoch = i.epoch } in
    let w : Circuit = record { kinds = i.kinds.items; pool = c.redrive_pin-slot.new.pool; epoch = i.epoch } in
    let a = redrives v w c.args.gate.0 c.args.position c.args.driver.0 c.pin_of-pin.result c.redrive_pin-slot.result refl c.redrive_pin-slot.ensures.rings (rw (← c.self.view_is) at c.pin_of-pin.ensures.rings) c.tell_rings.ensures.rings c.self.invariant.0.wired (rw (← c.self.view_is) at c.requires.driver) c.requires.apart (rw (← c.self.view_is) at c.requires.path) (rw (← c.self.view_is) at c.pin_of-pin.ensures.pin) c.redrive_pin-slot.ensures.stood in
    rw (← c.self.view_is, c.push.ensures.entries) (a.undos c.args.undos.now.entries)

pub returns-clause-readers : goal.returns-clause-readers
returns-clause-readers c =
    let i = c.self.inside in
    let v : Circuit = record { kinds = i.kinds.items; pool = i.pool; epoch = i.epoch } in
    let w : Circuit = record { kinds = i.kinds.items; pool = c.redrive_pin-slot.new.pool; epoch = i.epoch } in
    let at : Some c.pin_of-pin.result.0 ≡ slice_get (gate_pins v.pool c.args.gate.0) c.args.position = rw (← c.self.view_is) at c.pin_of-pin.ensures.pin in
    let ne = not-zero v c.args.gate.0 c.args.position c.pin_of-pin.result.0 at in
    let there : slice_get (list_of v.pool.inputs c.args.gate.0) c.args.position ≡ Some c.pin_of-pin.result.0 = sym (rw (ne_eqb c.args.gate.0 0 ne) at at) in
    rw (← c.self.view_is) (reader-moves v w c.pin_of-pin.result.0 c.args.gate.0 c.args.position c.args.driver.0 c.redrive_pin-slot.ensures.rings (rw (← c.self.view_is) at c.pin_of-pin.ensures.rings) c.self.invariant.0.wired ne there)

pub returns-clause-uses : goal.returns-clause-uses
returns-clause-uses c = rw (← c.self.view_is) (record { pins_left = omega (arith, c.redrive_pin-slot.ensures.spare); nodes_left = omega arith; pins_more = omega (arith, ap finset.len c.redrive_pin-slot.ensures.taken) })

pub returns-clause-held : goal.returns-clause-held
returns-clause-held c =
    let i = c.self.inside in
    let v : Circuit = record { kinds = i.kinds.items; pool = i.pool; epoch = i.epoch } in
    let w : Circuit = record { kinds = i.kinds.items; pool = c.redrive_pin-slot.new.pool; epoch = i.epoch } in
    let a = redrives v w c.args.gate.0 c.args.position c.args.driver.0 c.pin_of-pin.result c.redrive_pin-slot.result refl c.redrive_pin-slot.ensures.rings (rw (← c.self.view_is) at c.pin_of-pin.ensures.rings) c.tell_rings.ensures.rings c.self.invariant.0.wired (rw (← c.self.view_is) at c.requires.driver) c.requires.apart (rw (← c.self.view_is) at c.requires.path) (rw (← c.self.view_is) at c.pin_of-pin.ensures.pin) c.redrive_pin-slot.ensures.stood in
    let gw : IsGraph w = record { wired = a.wired; room = omega (arith, c.self.invariant.0.room, c.redrive_pin-slot.ensures.nodes); few = c.self.invariant.0.few } in
    let rings = rw (← c.self.view_is) at c.pin_of-pin.ensures.rings in
    let same = linked-same v.pool w.pool c.redrive_pin-slot.ensures.nodes (ap (λ (r : Rings). r.inputs) c.redrive_pin-slot.ensures.rings) in
    let count = ap (λ (l : List Undo). length (held l)) c.push.ensures.entries in
    rw (← c.self.view_is) (holds-by v w c.args.undos.now.entries c.push.new.self.entries rings c.tell_rings.ensures.rings c.self.invariant.0 gw (omega (arith, count, same, ap finset.len c.redrive_pin-slot.ensures.taken)))

pub returns-clause-together : goal.returns-clause-together
returns-clause-together c = omega (arith, ap length c.push.ensures.entries, c.push.ensures.spare)
