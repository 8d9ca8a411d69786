use Rattle.std.proofs.Common.{arith, ℕ, sym, ap, ◌∙◌, length, Some, None, ◌≡◌, ◌≢◌, ◌<◌}
use Rattle.gate_graph.specs.Circuit.{Circuit}
use Rattle.gate_graph.proofs.Fanned.{last-reader, count-there}
use Rattle.gate_net.specs.declared.Kind.TheVariants.{Zero}
use Rattle.gate_graph.proofs.Making.{makes, free-found}
use Rattle.gate_graph.proofs.LeadOns.{live-in}
use Rattle.gate_graph.proofs.KindAt.{kind-within, wired-set, live-next}
use Rattle.gate_graph.specs.Wirings.{kind_at}
use Rattle.gate_graph.specs.Inner.Circuit.{kinds_live}
use Rattle.gate_graph.proofs.Numbers.{bit-none}
use Rattle.gate_graph.proofs.HeldPins.{holds-by}
use Rattle.pin_pool.proofs.Public.{linked-more}
use Rattle.gate_graph.specs.Holds.{held}
use Rattle.gate_graph.specs.declared.undo_list.Undo.{Undo}
use Rattle.pin_pool.specs.Rings.{Rings}
use Rattle.gate_graph.specs.Inner.Circuit.{IsGraph}
use Rattle.std.proofs.Common.{List, ◌∷◌, [], length-append}
use Rattle.pin_pool.specs.Pins.{list_of}
use Rattle.gate_graph.proofs.state.Graph.new_not.Goals as goal

pub link_new-pin-requires-clause-driver : goal.link_new-pin-requires-clause-driver
link_new-pin-requires-clause-driver c =
    let i = c.self.inside in
    let v : Circuit = record { kinds = i.kinds.items; pool = i.pool; epoch = i.epoch } in
    omega (arith, kind-within i.kinds.items c.args.driver.0 (live-in v c.args.driver.0 (rw (← c.self.view_is) at c.requires.driver)), c.self.invariant.0.room)

pub link_new-pin-requires-clause-gate : goal.link_new-pin-requires-clause-gate
link_new-pin-requires-clause-gate c =
    let i = c.self.inside in
    let least : kinds_live i.kinds.items c.least_free-node.result = rw c.deref.ensures.value at c.least_free-node.ensures.live in
    let within : c.least_free-node.result < length i.kinds.items = free-found i.kinds.items c.least_free-node.result (rw (← c.self.view_is) at c.requires.nodes) least in
    omega (arith, within, c.self.invariant.0.room)

pub invariant_of-self : goal.invariant_of-self
invariant_of-self c =
    let i = c.self.inside in
    let v : Circuit = record { kinds = i.kinds.items; pool = i.pool; epoch = i.epoch } in
    let w : Circuit = record { kinds = c.set_kind.new.kinds.items; pool = c.link_new-pin.new.pool; epoch = i.epoch } in
    let least : kinds_live i.kinds.items c.least_free-node.result = rw c.deref.ensures.value at c.least_free-node.ensures.live in
    let within : c.least_free-node.result < length i.kinds.items = free-found i.kinds.items c.least_free-node.result (rw (← c.self.view_is) at c.requires.nodes) least in
    let free : kind_at i.kinds.items c.least_free-node.result ≡ None = (rw c.deref.ensures.value at c.least_free-node.ensures.free) within in
    let a = makes v w c.least_free-node.result c.args.driver.0 c.link_new-pin.result c.link_new-pin.ensures.rings c.tell_rings.ensures.rings c.tell_rings-2.ensures.rings c.self.invariant.0.wired free least (wired-set i.kinds.items c.set_kind.new.kinds.items i.pool c.link_new-pin.new.pool _ _ _ c.set_kind.ensures.kinds c.link_new-pin.ensures.rings) c.link_new-pin.ensures.fresh (rw (← c.self.view_is) at c.requires.driver) c.set_kind.ensures.len in
    (record { wired = a.wired; room = omega (arith, c.self.invariant.0.room, c.link_new-pin.ensures.nodes, c.set_kind.ensures.len); few = omega (arith, c.self.invariant.0.few, c.set_kind.ensures.len) }, (live-next i.kinds.items c.set_kind.new.kinds.items i.pool c.least_free-node.result _ c.set_kind.ensures.kinds least (λ e. cc), (c.set_kind.ensures.dead, c.set_kind.ensures.free)))

pub returns-clause-net : goal.returns-clause-net
returns-clause-net c =
    let i = c.self.inside in
    let v : Circuit = record { kinds = i.kinds.items; pool = i.pool; epoch = i.epoch } in
    let w : Circuit = record { kinds = c.set_kind.new.kinds.items; pool = c.link_new-pin.new.pool; epoch = i.epoch } in
    let least : kinds_live i.kinds.items c.least_free-node.result = rw c.deref.ensures.value at c.least_free-node.ensures.live in
    let within : c.least_free-node.result < length i.kinds.items = free-found i.kinds.items c.least_free-node.result (rw (← c.self.view_is) at c.requires.nodes) least in
    let free : kind_at i.kinds.items c.least_free-node.result ≡ None = (rw c.deref.ensures.value at c.least_free-node.ensures.free) within in
    let a = makes v w c.least_free-node.result c.args.driver.0 c.link_new-pin.result c.link_new-pin.ensures.rings c.tell_rings.ensures.rings c.tell_rings-2.ensures.rings c.self.invariant.0.wired free least (wired-set i.kinds.items c.set_kind.new.kinds.items i.pool c.link_new-pin.new.pool _ _ _ c.set_kind.ensures.kinds c.link_new-pin.ensures.rings) c.link_new-pin.ensures.fresh (rw (← c.self.view_is) at c.requires.driver) c.set_kind.ensures.len in
    rw (← c.self.view_is) a.net

pub returns-clause-undos : goal.returns-clause-undos
returns-clause-undos c =
    let i = c.self.inside in
    let v : Circuit = record { kinds = i.kinds.items; pool = i.pool; epoch = i.epoch } in
    let w : Circuit = record { kinds = c.set_kind.new.kinds.items; pool = c.link_new-pin.new.pool; epoch = i.epoch } in
    let least : kinds_live i.kinds.items c.least_free-node.result = rw c.deref.ensures.value at c.least_free-node.ensures.live in
    let within : c.least_free-node.result < length i.kinds.items = free-found i.kinds.items c.least_free-node.result (rw (← c.self.view_is) at c.requires.nodes) least in
    let free : kind_at i.kinds.items c.least_free-node.result ≡ None = (rw c.deref.ensures.value at c.least_free-node.ensures.free) within in
    let a = makes v w c.least_free-node.result c.args.driver.0 c.link_new-pin.result c.link_new-pin.ensures.rings c.tell_rings.ensures.rings c.tell_rings-2.ensures.rings c.self.invariant.0.wired free least (wired-set i.kinds.items c.set_kind.new.kinds.items i.pool c.link_new-pin.new.pool _ _ _ c.set_kind.ensures.kinds c.link_new-pin.ensures.rings) c.link_new-pin.ensures.fresh (rw (← c.self.view_is) at c.requires.driver) c.set_kind.ensures.len in
    rw (← c.self.view_is, c.push.ensures.entries) (a.undos c.args.undos.now.entries)

pub returns-clause-readers : goal.returns-clause-readers
returns-clause-readers c =
    let i = c.self.inside in
    let v : Circuit = record { kinds = i.kinds.items; pool = i.pool; epoch = i.epoch } in
    let w : Circuit = record { kinds = c.set_kind.new.kinds.items; pool = c.link_new-pin.new.pool; epoch = i.epoch } in
    let least : kinds_live i.kinds.items c.least_free-node.result = rw c.deref.ensures.value at c.least_free-node.ensures.live in
    let within : c.least_free-node.result < length i.kinds.items = free-found i.kinds.items c.least_free-node.result (rw (← c.self.view_is) at c.requires.nodes) least in
    let free : kind_at i.kinds.items c.least_free-node.result ≡ None = (rw c.deref.ensures.value at c.least_free-node.ensures.free) within in
    let ne : c.least_free-node.result ≢ 0 = λ is. (let both : Some Zero ≡ None = sym c.self.invariant.0.wired.shape.zero_is ∙ ap (λ (n : ℕ). kind_at i.kinds.items n) (sym is) ∙ free in cc) in
    rw (← c.self.view_is) (last-reader v w c.link_new-pin.result.0 c.least_free-node.result c.args.driver.0 c.link_new-pin.ensures.rings c.tell_rings.ensures.rings c.tell_rings-2.ensures.rings c.self.invariant.0.wired ne (count-there v c.least_free-node.result c.self.invariant.0.wired.shape ne) c.link_new-pin.ensures.fresh)

pub returns-clause-uses : goal.returns-clause-uses
returns-clause-uses c =
    let i = c.self.inside in
    let least : kinds_live i.kinds.items c.least_free-node.result = rw c.deref.ensures.value at c.least_free-node.ensures.live in
    let within : c.least_free-node.result < length i.kinds.items = free-found i.kinds.items c.least_free-node.result (rw (← c.self.view_is) at c.requires.nodes) least in
    let free : kind_at i.kinds.items c.least_free-node.result ≡ None = (rw c.deref.ensures.value at c.least_free-node.ensures.free) within in
    rw (← c.self.view_is) (record {
      pins_left = c.link_new-pin.ensures.spare;
      nodes_left = omega (arith, c.set_kind.ensures.count, bit-none (kind_at i.kinds.items c.least_free-node.result) free);
      pins_more = c.link_new-pin.ensures.taken;
    })

pub set_kind-requires-clause-node : goal.set_kind-requires-clause-node
set_kind-requires-clause-node c =
    let i = c.self.inside in
    let g = c.self.invariant.0 in
    let least : kinds_live i.kinds.items c.least_free-node.result = rw c.deref.ensures.value at c.least_free-node.ensures.live in
    let within : c.least_free-node.result < length i.kinds.items = free-found i.kinds.items c.least_free-node.result (rw (← c.self.view_is) at c.requires.nodes) least in
    within

pub overflow_add-self : goal.overflow_add-self
overflow_add-self c =
    let i = c.self.inside in
    let g = c.self.invariant.0 in
    let least : kinds_live i.kinds.items c.least_free-node.result = rw c.deref.ensures.value at c.least_free-node.ensures.live in
    let within : c.least_free-node.result < length i.kinds.items = free-found i.kinds.items c.least_free-node.result (rw (← c.self.view_is) at c.requires.nodes) least in
    omega (arith, within, g.few)

pub returns-clause-held : goal.returns-clause-held
returns-clause-held c =
    let i = c.self.inside in
    let v : Circuit = record { kinds = i.kinds.items; pool = i.pool; epoch = i.epoch } in
    let w : Circuit = record { kinds = c.set_kind.new.kinds.items; pool = c.link_new-pin.new.pool; epoch = i.epoch } in
    let least : kinds_live i.kinds.items c.least_free-node.result = rw c.deref.ensures.value at c.least_free-node.ensures.live in
    let within : c.least_free-node.result < length i.kinds.items = free-found i.kinds.items c.least_free-node.result (rw (← c.self.view_is) at c.requires.nodes) least in
    let free : kind_at i.kinds.items c.least_free-node.result ≡ None = (rw c.deref.ensures.value at c.least_free-node.ensures.free) within in
    let a = makes v w c.least_free-node.result c.args.driver.0 c.link_new-pin.result c.link_new-pin.ensures.rings c.tell_rings.ensures.rings c.tell_rings-2.ensures.rings c.self.invariant.0.wired free least (wired-set i.kinds.items c.set_kind.new.kinds.items i.pool c.link_new-pin.new.pool _ _ _ c.set_kind.ensures.kinds c.link_new-pin.ensures.rings) c.link_new-pin.ensures.fresh (rw (← c.self.view_is) at c.requires.driver) c.set_kind.ensures.len in
    let gw : IsGraph w = record { wired = a.wired; room = omega (arith, c.self.invariant.0.room, c.link_new-pin.ensures.nodes, c.set_kind.ensures.len); few = omega (arith, c.self.invariant.0.few, c.set_kind.ensures.len) } in
    let more = linked-more v.pool w.pool c.link_new-pin.ensures.nodes c.least_free-node.result 1 _ (ap (λ (r : Rings). r.inputs) c.link_new-pin.ensures.rings) (omega (arith, within, c.self.invariant.0.room)) (length-append (list_of v.pool.inputs c.least_free-node.result) (c.link_new-pin.result.0 ∷ [])) in
    let count = ap (λ (l : List Undo). length (held l)) c.push.ensures.entries in
    rw (← c.self.view_is) (holds-by v w c.args.undos.now.entries c.push.new.self.entries c.tell_rings.ensures.rings c.tell_rings-2.ensures.rings c.self.invariant.0 gw (omega (arith, count, more, c.link_new-pin.ensures.taken)))

pub returns-clause-together : goal.returns-clause-together
returns-clause-together c = omega (arith, ap length c.push.ensures.entries, c.push.ensures.spare)
