use Rattle.std.specs.FinSet as finset
use Rattle.std.proofs.Common.{arith, inr, sym, Some, ◌≡◌, ap, List, length}
use Rattle.std.specs.Prelude.{slice_get}
use Rattle.std.proofs.lemmas.Bool.{ne_eqb}
use Rattle.pin_pool.proofs.Public.{linked-less}
use Rattle.pin_pool.specs.Pins.{list_of}
use Rattle.pin_pool.specs.Rings.{Rings}
use Rattle.gate_graph.specs.declared.undo_list.Undo.{Undo}
use Rattle.gate_graph.specs.Circuit.{Circuit, gate_pins, net_of}
use Rattle.gate_net.specs.Net.{IsKind}
use Rattle.gate_net.specs.declared.Kind.TheVariants.{Xor}
use Rattle.gate_graph.specs.Holds.{held}
use Rattle.gate_graph.specs.Wirings.{kind_at}
use Rattle.gate_graph.specs.Inner.Circuit.{IsGraph}
use Rattle.gate_graph.proofs.Fanned.{reader-goes}
use Rattle.gate_graph.proofs.HeldPins.{holds-by}
use Rattle.gate_graph.proofs.KindAt.{kind-within, live-set, wired-set}
use Rattle.gate_graph.proofs.LeadOns.{kind-of, live-in}
use Rattle.gate_graph.proofs.Numbers.{bit-some}
use Rattle.gate_graph.proofs.Ranked.{not-zero}
use Rattle.gate_graph.proofs.Turned.{turns}
use Rattle.gate_graph.proofs.state.Graph.turn.Goals as goal

pub unlink_at-slot-requires : goal.unlink_at-slot-requires
unlink_at-slot-requires c = rw (← c.self.view_is) at c.pin_of-pin.ensures.pin

pub set_kind-requires-clause-node : goal.set_kind-requires-clause-node
set_kind-requires-clause-node c =
    let i = c.self.inside in
    let v : Circuit = record { kinds = i.kinds.items; pool = i.pool; epoch = i.epoch } in
    kind-within i.kinds.items c.args.gate.0 (live-in v c.args.gate.0 (_, rw (← c.self.view_is) at c.requires.gate))

pub invariant_of-self : goal.invariant_of-self
invariant_of-self c =
    let i = c.self.inside in
    let v : Circuit = record { kinds = i.kinds.items; pool = i.pool; epoch = i.epoch } in
    let w : Circuit = record { kinds = c.set_kind.new.kinds.items; pool = c.unlink_at-slot.new.pool; epoch = i.epoch } in
    let rings = rw (← c.self.view_is) at c.pin_of-pin.ensures.rings in
    let a = turns v w c.args.gate.0 c.args.position c.pin_of-pin.result c.unlink_at-slot.result c.unlink_at-slot.ensures.rings rings c.tell_rings.ensures.rings c.self.invariant.0.wired (rw (← c.self.view_is) at c.requires.gate) (rw (← c.self.view_is) at c.pin_of-pin.ensures.pin) c.unlink_at-slot.ensures.stood (wired-set i.kinds.items c.set_kind.new.kinds.items i.pool c.unlink_at-slot.new.pool _ _ _ c.set_kind.ensures.kinds c.unlink_at-slot.ensures.rings) c.set_kind.ensures.len in
    let gw : IsGraph w = record { wired = a.wired; room = omega (arith, c.self.invariant.0.room, c.unlink_at-slot.ensures.nodes, c.set_kind.ensures.len); few = omega (arith, c.self.invariant.0.few, c.set_kind.ensures.len) } in
    (gw, (live-set i.kinds.items c.set_kind.new.kinds.items i.pool c.args.gate.0 _ i.least i.least c.set_kind.ensures.kinds c.self.invariant.1.0 (omega arith) (inr (λ e. cc)), (c.set_kind.ensures.dead, c.set_kind.ensures.free)))

pub returns-clause-net : goal.returns-clause-net
returns-clause-net c =
    let i = c.self.inside in
    let v : Circuit = record { kinds = i.kinds.items; pool = i.pool; epoch = i.epoch } in
    let w : Circuit = record { kinds = c.set_kind.new.kinds.items; pool = c.unlink_at-slot.new.pool; epoch = i.epoch } in
    let rings = rw (← c.self.view_is) at c.pin_of-pin.ensures.rings in
    let a = turns v w c.args.gate.0 c.args.position c.pin_of-pin.result c.unlink_at-slot.result c.unlink_at-slot.ensures.rings rings c.tell_rings.ensures.rings c.self.invariant.0.wired (rw (← c.self.view_is) at c.requires.gate) (rw (← c.self.view_is) at c.pin_of-pin.ensures.pin) c.unlink_at-slot.ensures.stood (wired-set i.kinds.items c.set_kind.new.kinds.items i.pool c.unlink_at-slot.new.pool _ _ _ c.set_kind.ensures.kinds c.unlink_at-slot.ensures.rings) c.set_kind.ensures.len in
    rw (← c.self.view_is) a.net

pub returns-clause-undos : goal.returns-clause-undos
returns-clause-undos c =
    let i = c.self.inside in
    let v : Circuit = record { kinds = i.kinds.items; pool = i.pool; epoch = i.epoch } in
    let w : Circuit = record { kinds = c.set_kind.new.kinds.items; pool = c.unlink_at-slot.new.pool; epoch = i.epoch } in
    let rings = rw (← c.self.view_is) at c.pin_of-pin.ensures.rings in
    let a = turns v w c.args.gate.0 c.args.position c.pin_of-pin.result c.unlink_at-slot.result c.unlink_at-slot.ensures.rings rings c.tell_rings.ensures.rings c.self.invariant.0.wired (rw (← c.self.view_is) at c.requires.gate) (rw (← c.self.view_is) at c.pin_of-pin.ensures.pin) c.unlink_at-slot.ensures.stood (wired-set i.kinds.items c.set_kind.new.kinds.items i.pool c.unlink_at-slot.new.pool _ _ _ c.set_kind.ensures.kinds c.unlink_at-slot.ensures.rings) c.set_kind.ensures.len in
    rw (← c.self.view_is, c.push.ensures.entries) (a.undos c.args.undos.now.entries)

pub returns-clause-readers : goal.returns-clause-readers
returns-clause-readers c =
    let i = c.self.inside in
    let v : Circuit = record { kinds = i.kinds.items; pool = i.pool; epoch = i.epoch } in
    let w : Circuit = record { kinds = c.set_kind.new.kinds.items; pool = c.unlink_at-slot.new.pool; epoch = i.epoch } in
    let at : Some c.pin_of-pin.result.0 ≡ slice_get (gate_pins v.pool c.args.gate.0) c.args.position = rw (← c.self.view_is) at c.pin_of-pin.ensures.pin in
    let ne = not-zero v c.args.gate.0 c.args.position c.pin_of-pin.result.0 at in
    let there : slice_get (list_of v.pool.inputs c.args.gate.0) c.args.position ≡ Some c.pin_of-pin.result.0 = sym (rw (ne_eqb c.args.gate.0 0 ne) at at) in
    rw (← c.self.view_is) (reader-goes v w c.pin_of-pin.result.0 c.args.gate.0 c.args.position c.unlink_at-slot.ensures.rings (rw (← c.self.view_is) at c.pin_of-pin.ensures.rings) c.tell_rings.ensures.rings c.self.invariant.0.wired ne there)

pub returns-clause-uses : goal.returns-clause-uses
returns-clause-uses c =
    let i = c.self.inside in
    let v : Circuit = record { kinds = i.kinds.items; pool = i.pool; epoch = i.epoch } in
    let is : IsKind (net_of v) c.args.gate.0 Xor = rw (← c.self.view_is) at c.requires.gate in
    let live = kind-of v c.args.gate.0 _ is.1 in
    rw (← c.self.view_is) (record {
      pins_left = omega (arith, c.unlink_at-slot.ensures.spare);
      nodes_left = omega (arith, c.set_kind.ensures.count, bit-some (kind_at i.kinds.items c.args.gate.0) Xor live);
      pins_more = omega (arith, ap finset.len c.unlink_at-slot.ensures.taken);
    })

pub returns-clause-held : goal.returns-clause-held
returns-clause-held c =
    let i = c.self.inside in
    let v : Circuit = record { kinds = i.kinds.items; pool = i.pool; epoch = i.epoch } in
    let w : Circuit = record { kinds = c.set_kind.new.kinds.items; pool = c.unlink_at-slot.new.pool; epoch = i.epoch } in
    let rings = rw (← c.self.view_is) at c.pin_of-pin.ensures.rings in
    let a = turns v w c.args.gate.0 c.args.position c.pin_of-pin.result c.unlink_at-slot.result c.unlink_at-slot.ensures.rings rings c.tell_rings.ensures.rings c.self.invariant.0.wired (rw (← c.self.view_is) at c.requires.gate) (rw (← c.self.view_is) at c.pin_of-pin.ensures.pin) c.unlink_at-slot.ensures.stood (wired-set i.kinds.items c.set_kind.new.kinds.items i.pool c.unlink_at-slot.new.pool _ _ _ c.set_kind.ensures.kinds c.unlink_at-slot.ensures.rings) c.set_kind.ensures.len in
    let gw : IsGraph w = record { wired = a.wired; room = omega (arith, c.self.invariant.0.room, c.unlink_at-slot.ensures.nodes, c.set_kind.ensures.len); few = omega (arith, c.self.invariant.0.few, c.set_kind.ensures.len) } in
    let linked = rw (← c.self.view_is) at c.pin_of-pin.ensures.linked in
    let less = linked-less v.pool w.pool c.unlink_at-slot.ensures.nodes c.pin_of-pin.result.0 rings (ap (λ (r : Rings). r.inputs) c.unlink_at-slot.ensures.rings) linked.0 in
    let count = ap (λ (l : List Undo). length (held l)) c.push.ensures.entries in
    rw (← c.self.view_is) (holds-by v w c.args.undos.now.entries c.push.new.self.entries rings c.tell_rings.ensures.rings c.self.invariant.0 gw (omega (arith, count, less, ap finset.len c.unlink_at-slot.ensures.taken)))

pub returns-clause-together : goal.returns-clause-together
returns-clause-together c = omega (arith, ap length c.push.ensures.entries, c.push.ensures.spare)
