use Rattle.std.specs.FinSet as finset
use Rattle.std.proofs.Common.{arith, refl, sym, ◌≢◌, ap}
use Rattle.gate_graph.specs.Circuit.{Circuit}
use Rattle.gate_graph.proofs.Reread.{rereads}
use Rattle.gate_graph.proofs.Fanned.{readers-move}
use Rattle.gate_graph.proofs.LeadOns.{live-in}
use Rattle.gate_graph.proofs.KindAt.{kind-within}
use Rattle.gate_graph.proofs.HeldPins.{holds-by}
use Rattle.pin_pool.proofs.Public.{linked-same}
use Rattle.std.proofs.Common.{List, length}
use Rattle.gate_graph.specs.Holds.{held}
use Rattle.gate_graph.specs.declared.undo_list.Undo.{Undo}
use Rattle.std.specs.FinSet as finset
use Rattle.pin_pool.specs.Rings.{Rings}
use Rattle.gate_graph.specs.Inner.Circuit.{IsGraph}
use Rattle.gate_graph.proofs.state.Graph.reread.Goals as goal

pub move_fanouts-splice-requires-clause-from : goal.move_fanouts-splice-requires-clause-from
move_fanouts-splice-requires-clause-from c =
    let i = c.self.inside in
    let v : Circuit = record { kinds = i.kinds.items; pool = i.pool; epoch = i.epoch } in
    omega (arith, kind-within i.kinds.items c.args.from.0 (live-in v c.args.from.0 (rw (← c.self.view_is) at c.requires.from)), c.self.invariant.0.room)

pub move_fanouts-splice-requires-clause-to : goal.move_fanouts-splice-requires-clause-to
move_fanouts-splice-requires-clause-to c =
    let i = c.self.inside in
    let v : Circuit = record { kinds = i.kinds.items; pool = i.pool; epoch = i.epoch } in
    omega (arith, kind-within i.kinds.items c.args.to.0 (live-in v c.args.to.0 (rw (← c.self.view_is) at c.requires.to)), c.self.invariant.0.room)

pub invariant_of-self : goal.invariant_of-self
invariant_of-self c =
    let i = c.self.inside in
    let v : Circuit = record { kinds = i.kinds.items; pool = i.pool; epoch = i.epoch } in
    let w : Circuit = record { kinds = i.kinds.items; pool = c.move_fanouts-splice.new.pool; epoch = i.epoch } in
    let a = rereads v w c.args.from.0 c.args.to.0 c.move_fanouts-splice.result refl c.move_fanouts-splice.ensures.rings c.tell_rings.ensures.rings c.tell_rings-2.ensures.rings c.self.invariant.0.wired (rw (← c.self.view_is) at c.requires.from) (rw (← c.self.view_is) at c.requires.to) c.requires.apart (rw (← c.self.view_is) at c.requires.path) c.move_fanouts-splice.ensures.splice in
    (record { wired = a.wired; room = omega (arith, c.self.invariant.0.room, c.move_fanouts-splice.ensures.nodes); few = c.self.invariant.0.few }, c.self.invariant.1)

pub returns-clause-net : goal.returns-clause-net
returns-clause-net c =
    let i = c.self.inside in
    let v : Circuit = record { kinds = i.kinds.items; pool = i.pool; epoch = i.epoch } in
    let w : Circuit = record { kinds = i.kinds.items; pool = c.move_fanouts-splice.new.pool; epoch = i.epoch } in
    let a = rereads v w c.args.from.0 c.args.to.0 c.move_fanouts-splice.result refl c.move_fanouts-splice.ensures.rings c.tell_rings.ensures.rings c.tell_rings-2.ensures.rings c.self.invariant.0.wired (rw (← c.self.view_is) at c.requires.from) (rw (← c.self.view_is) at c.requires.to) c.requires.apart (rw (← c.self.view_is) at c.requires.path) c.move_fanouts-splice.ensures.splice in
    rw (← c.self.view_is) a.net

pub returns-clause-undos : goal.returns-clause-undos
returns-clause-undos c =
    let i = c.self.inside in
    let v : Circuit = record { kinds = i.kinds.items; pool = i.pool; epoch = i.epoch } in
    let w : Circuit = record { kinds = i.kinds.items; pool = c.move_fanouts-splice.new.pool; epoch = i.epoch } in
    let a = rereads v w c.args.from.0 c.args.to.0 c.move_fanouts-splice.result refl c.move_fanouts-splice.ensures.rings c.tell_rings.ensures.rings c.tell_rings-2.ensures.rings c.self.invariant.0.wired (rw (← c.self.view_is) at c.requires.from) (rw (← c.self.view_is) at c.requires.to) c.requires.apart (rw (← c.self.view_is) at c.requires.path) c.move_fanouts-splice.ensures.splice in
    rw (← c.self.view_is, c.push.ensures.entries) (a.undos c.args.undos.now.entries)

pub returns-clause-readers : goal.returns-clause-readers
returns-clause-readers c =
    let i = c.self.inside in
    let v : Circuit = record { kinds = i.kinds.items; pool = i.pool; epoch = i.epoch } in
    let w : Circuit = record { kinds = i.kinds.items; pool = c.move_fanouts-splice.new.pool; epoch = i.epoch } in
    let apart : c.args.from.0 ≢ c.args.to.0 = λ s. c.requires.apart (sym s) in
    rw (← c.self.view_is) (readers-move v w c.args.from.0 c.args.to.0 apart c.move_fanouts-splice.ensures.rings)

pub returns-clause-uses : goal.returns-clause-uses
returns-clause-uses c = rw (← c.self.view_is) (record { pins_left = omega (arith, c.move_fanouts-splice.ensures.spare); nodes_left = omega arith; pins_more = omega (arith, ap finset.len c.move_fanouts-splice.ensures.taken) })

pub returns-clause-held : goal.returns-clause-held
returns-clause-held c =
    let i = c.self.inside in
    let v : Circuit = record { kinds = i.kinds.items; pool = i.pool; epoch = i.epoch } in
    let w : Circuit = record { kinds = i.kinds.items; pool = c.move_fanouts-splice.new.pool; epoch = i.epoch } in
    let a = rereads v w c.args.from.0 c.args.to.0 c.move_fanouts-splice.result refl c.move_fanouts-splice.ensures.rings c.tell_rings.ensures.rings c.tell_rings-2.ensures.rings c.self.invariant.0.wired (rw (← c.self.view_is) at c.requires.from) (rw (← c.self.view_is) at c.requires.to) c.requires.apart (rw (← c.self.view_is) at c.requires.path) c.move_fanouts-splice.ensures.splice in
    let gw : IsGraph w = record { wired = a.wired; room = omega (arith, c.self.invariant.0.room, c.move_fanouts-splice.ensures.nodes); few = c.self.invariant.0.few } in
    let same = linked-same v.pool w.pool c.move_fanouts-splice.ensures.nodes (ap (λ (r : Rings). r.inputs) c.move_fanouts-splice.ensures.rings) in
    let count = ap (λ (l : List Undo). length (held l)) c.push.ensures.entries in
    rw (← c.self.view_is) (holds-by v w c.args.undos.now.entries c.push.new.self.entries c.tell_rings.ensures.rings c.tell_rings-2.ensures.rings c.self.invariant.0 gw (omega (arith, count, same, ap finset.len c.move_fanouts-splice.ensures.taken)))

pub returns-clause-together : goal.returns-clause-together
returns-clause-together c = omega (arith, ap length c.push.ensures.entries, c.push.ensures.spare)
