use Rattle.std.proofs.Common.{arith, refl}
use Rattle.gate_graph.specs.Circuit.{Circuit}
use Rattle.gate_graph.proofs.Appended.{appends}
use Rattle.gate_graph.proofs.LeadOns.{kind-of, live-in, not-constant}
use Rattle.gate_graph.proofs.Fanned.{last-reader, count-there}
use Rattle.gate_graph.proofs.KindAt.{kind-within}
use Rattle.gate_graph.proofs.HeldPins.{holds-by}
use Rattle.pin_pool.proofs.Public.{linked-more}
use Rattle.gate_graph.specs.Holds.{held}
use Rattle.gate_graph.specs.declared.undo_list.Undo.{Undo}
use Rattle.pin_pool.specs.Rings.{Rings}
use Rattle.gate_graph.specs.Inner.Circuit.{IsGraph}
use Rattle.std.proofs.Common.{List, ◌∷◌, [], length, length-append, ap}
use Rattle.pin_pool.specs.Pins.{list_of}
use Rattle.gate_graph.proofs.state.Graph.append.Goals as goal

pub link_new-pin-requires-clause-gate : goal.link_new-pin-requires-clause-gate
link_new-pin-requires-clause-gate c =
    let i = c.self.inside in
    let v : Circuit = record { kinds = i.kinds.items; pool = i.pool; epoch = i.epoch } in
    let gate = rw (← c.self.view_is) at c.requires.gate in
    omega (arith, kind-within i.kinds.items c.args.gate.0 (live-in v c.args.gate.0 (gate.1.0, gate.1.1.0)), c.self.invariant.0.room)

pub link_new-pin-requires-clause-driver : goal.link_new-pin-requires-clause-driver
link_new-pin-requires-clause-driver c =
    let i = c.self.inside in
    let v : Circuit = record { kinds = i.kinds.items; pool = i.pool; epoch = i.epoch } in
    omega (arith, kind-within i.kinds.items c.args.driver.0 (live-in v c.args.driver.0 (rw (← c.self.view_is) at c.requires.driver)), c.self.invariant.0.room)

pub invariant_of-self : goal.invariant_of-self
invariant_of-self c =
    let i = c.self.inside in
    let v : Circuit = record { kinds = i.kinds.items; pool = i.pool; epoch = i.epoch } in
    let w : Circuit = record { kinds = i.kinds.items; pool = c.link_new-pin.new.pool; epoch = i.epoch } in
    let a = appends v w c.args.gate.0 c.args.driver.0 c.link_new-pin.result refl c.link_new-pin.ensures.rings c.tell_rings.ensures.rings c.tell_rings-2.ensures.rings c.self.invariant.0.wired (rw (← c.self.view_is) at c.requires.gate) (rw (← c.self.view_is) at c.requires.driver) c.requires.apart (rw (← c.self.view_is) at c.requires.path) c.link_new-pin.ensures.fresh in
    (record { wired = a.wired; room = omega (arith, c.self.invariant.0.room, c.link_new-pin.ensures.nodes); few = c.self.invariant.0.few }, c.self.invariant.1)

pub returns-clause-net : goal.returns-clause-net
returns-clause-net c =
    let i = c.self.inside in
    let v : Circuit = record { kinds = i.kinds.items; pool = i.pool; epoch = i.epoch } in
    let w : Circuit = record { kinds = i.kinds.items; pool = c.link_new-pin.new.pool; epoch = i.epoch } in
    let a = appends v w c.args.gate.0 c.args.driver.0 c.link_new-pin.result refl c.link_new-pin.ensures.rings c.tell_rings.ensures.rings c.tell_rings-2.ensures.rings c.self.invariant.0.wired (rw (← c.self.view_is) at c.requires.gate) (rw (← c.self.view_is) at c.requires.driver) c.requires.apart (rw (← c.self.view_is) at c.requires.path) c.link_new-pin.ensures.fresh in
    rw (← c.self.view_is) a.net

pub returns-clause-undos : goal.returns-clause-undos
returns-clause-undos c =
    let i = c.self.inside in
    let v : Circuit = record { kinds = i.kinds.items; pool = i.pool; epoch = i.epoch } in
    let w : Circuit = record { kinds = i.kinds.items; pool = c.link_new-pin.new.pool; epoch = i.epoch } in
    let a = appends v w c.args.gate.0 c.args.driver.0 c.link_new-pin.result refl c.link_new-pin.ensures.rings c.tell_rings.ensures.rings c.tell_rings-2.ensures.rings c.self.invariant.0.wired (rw (← c.self.view_is) at c.requires.gate) (rw (← c.self.view_is) at c.requires.driver) c.requires.apart (rw (← c.self.view_is) at c.requires.path) c.link_new-pin.ensures.fresh in
    rw (← c.self.view_is, c.push.ensures.entries) (a.undos c.args.undos.now.entries)

pub returns-clause-readers : goal.returns-clause-readers
returns-clause-readers c =
    let i = c.self.inside in
    let v : Circuit = record { kinds = i.kinds.items; pool = i.pool; epoch = i.epoch } in
    let w : Circuit = record { kinds = i.kinds.items; pool = c.link_new-pin.new.pool; epoch = i.epoch } in
    let gate = rw (← c.self.view_is) at c.requires.gate in
    let live = kind-of v c.args.gate.0 _ gate.1.1.0.1 in
    let ne = (not-constant v c.self.invariant.0.wired.shape c.args.gate.0 gate.1.0 gate.0 live gate.1.1.1).0 in
    rw (← c.self.view_is) (last-reader v w c.link_new-pin.result.0 c.args.gate.0 c.args.driver.0 c.link_new-pin.ensures.rings c.tell_rings.ensures.rings c.tell_rings-2.ensures.rings c.self.invariant.0.wired ne (count-there v c.args.gate.0 c.self.invariant.0.wired.shape ne) c.link_new-pin.ensures.fresh)

pub returns-clause-uses : goal.returns-clause-uses
returns-clause-uses c = rw (← c.self.view_is) (record { pins_left = c.link_new-pin.ensures.spare; nodes_left = omega arith; pins_more = c.link_new-pin.ensures.taken })

pub returns-clause-held : goal.returns-clause-held
returns-clause-held c =
    let i = c.self.inside in
    let v : Circuit = record { kinds = i.kinds.items; pool = i.pool; epoch = i.epoch } in
    let w : Circuit = record { kinds = i.kinds.items; pool = c.link_new-pin.new.pool; epoch = i.epoch } in
    let a = appends v w c.args.gate.0 c.args.driver.0 c.link_new-pin.result refl c.link_new-pin.ensures.rings c.tell_rings.ensures.rings c.tell_rings-2.ensures.rings c.self.invariant.0.wired (rw (← c.self.view_is) at c.requires.gate) (rw (← c.self.view_is) at c.requires.driver) c.requires.apart (rw (← c.self.view_is) at c.requires.path) c.link_new-pin.ensures.fresh in
    let gw : IsGraph w = record { wired = a.wired; room = omega (arith, c.self.invariant.0.room, c.link_new-pin.ensures.nodes); few = c.self.invariant.0.few } in
    let gate = rw (← c.self.view_is) at c.requires.gate in
    let within = kind-within i.kinds.items c.args.gate.0 (live-in v c.args.gate.0 (gate.1.0, gate.1.1.0)) in
    let more = linked-more v.pool w.pool c.link_new-pin.ensures.nodes c.args.gate.0 1 _ (ap (λ (r : Rings). r.inputs) c.link_new-pin.ensures.rings) (omega (arith, within, c.self.invariant.0.room)) (length-append (list_of v.pool.inputs c.args.gate.0) (c.link_new-pin.result.0 ∷ [])) in
    let count = ap (λ (l : List Undo). length (held l)) c.push.ensures.entries in
    rw (← c.self.view_is) (holds-by v w c.args.undos.now.entries c.push.new.self.entries c.tell_rings.ensures.rings c.tell_rings-2.ensures.rings c.self.invariant.0 gw (omega (arith, count, more, c.link_new-pin.ensures.taken)))

pub returns-clause-together : goal.returns-clause-together
returns-clause-together c = omega (arith, ap length c.push.ensures.entries, c.push.ensures.spare)
