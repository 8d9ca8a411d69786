use Rattle.std.proofs.Common.{◌≡◌, ◌≢◌, ◌<◌, ℕ, length, map, arith, ap, ◌∙◌, true, None}
use Rattle.std.proofs.lemmas.List.{length-map}
use Rattle.rm_base.specs.declared.numbers.NodeId.{NodeId}
use Rattle.pin_pool.specs.Ring.{has}
use Rattle.gate_graph.specs.Wirings.{kind_at, Wiring}
use Rattle.gate_graph.specs.Circuit.{Circuit}
use Rattle.gate_graph.specs.Inner.Circuit.{IsGraph, kinds_live}
use Rattle.gate_graph.proofs.LeadOns.{live-in}
use Rattle.gate_graph.proofs.KindAt.{kind-within, live-next}
use Rattle.gate_graph.proofs.Pinned.{dead-pins}
use Rattle.gate_graph.proofs.Formed.{dead-node, live-node}
use Rattle.gate_graph.proofs.Making.{free-found}
use Rattle.gate_graph.proofs.Filling.{fills, new-readers, free-not_zero, parity-count}
use Rattle.gate_graph.proofs.Numbers.{bit-none, free-within}
use Rattle.gate_graph.proofs.HeldPins.{held-by, linked-filled}
use Rattle.gate_graph.proofs.state.Graph.new_gate.Goals as goal

pub link_all-requires-clause-none : goal.link_all-requires-clause-none
link_all-requires-clause-none c =
    let i = c.self.inside in
    let v : Circuit = record { kinds = i.kinds.items; pool = i.pool; epoch = i.epoch } in
    let g : IsGraph v = c.self.invariant.0 in
    let least : kinds_live i.kinds.items c.least_free-node.result = rw c.deref.ensures.value at c.least_free-node.ensures.live in
    let within : c.least_free-node.result < length i.kinds.items = free-found i.kinds.items c.least_free-node.result (rw (← c.self.view_is) at c.requires.nodes) least in
    let free : kind_at i.kinds.items c.least_free-node.result ≡ None = (rw c.deref.ensures.value at c.least_free-node.ensures.free) within in
    let drivers : (d : ℕ) → has d (map (λ (n : NodeId). n.0) c.args.drivers.now) ≡ true → kind_at v.kinds d ≢ None = λ d h. live-in v d ((rw (← c.self.view_is) at c.requires.drivers) d h) in
    dead-pins v g.wired.shape c.least_free-node.result free

pub link_all-requires-clause-apart : goal.link_all-requires-clause-apart
link_all-requires-clause-apart c =
    let i = c.self.inside in
    let v : Circuit = record { kinds = i.kinds.items; pool = i.pool; epoch = i.epoch } in
    let g : IsGraph v = c.self.invariant.0 in
    let least : kinds_live i.kinds.items c.least_free-node.result = rw c.deref.ensures.value at c.least_free-node.ensures.live in
    let within : c.least_free-node.result < length i.kinds.items = free-found i.kinds.items c.least_free-node.result (rw (← c.self.view_is) at c.requires.nodes) least in
    let free : kind_at i.kinds.items c.least_free-node.result ≡ None = (rw c.deref.ensures.value at c.least_free-node.ensures.free) within in
    let drivers : (d : ℕ) → has d (map (λ (n : NodeId). n.0) c.args.drivers.now) ≡ true → kind_at v.kinds d ≢ None = λ d h. live-in v d ((rw (← c.self.view_is) at c.requires.drivers) d h) in
    free-not_zero v c.least_free-node.result g.wired.shape free

pub link_all-requires-clause-gate : goal.link_all-requires-clause-gate
link_all-requires-clause-gate c =
    let i = c.self.inside in
    let v : Circuit = record { kinds = i.kinds.items; pool = i.pool; epoch = i.epoch } in
    let g : IsGraph v = c.self.invariant.0 in
    let least : kinds_live i.kinds.items c.least_free-node.result = rw c.deref.ensures.value at c.least_free-node.ensures.live in
    let within : c.least_free-node.result < length i.kinds.items = free-found i.kinds.items c.least_free-node.result (rw (← c.self.view_is) at c.requires.nodes) least in
    let free : kind_at i.kinds.items c.least_free-node.result ≡ None = (rw c.deref.ensures.value at c.least_free-node.ensures.free) within in
    let drivers : (d : ℕ) → has d (map (λ (n : NodeId). n.0) c.args.drivers.now) ≡ true → kind_at v.kinds d ≢ None = λ d h. live-in v d ((rw (← c.self.view_is) at c.requires.drivers) d h) in
    omega (arith, within, g.room)

pub link_all-requires-clause-drivers : goal.link_all-requires-clause-drivers
link_all-requires-clause-drivers c =
    let i = c.self.inside in
    let v : Circuit = record { kinds = i.kinds.items; pool = i.pool; epoch = i.epoch } in
    let g : IsGraph v = c.self.invariant.0 in
    let least : kinds_live i.kinds.items c.least_free-node.result = rw c.deref.ensures.value at c.least_free-node.ensures.live in
    let within : c.least_free-node.result < length i.kinds.items = free-found i.kinds.items c.least_free-node.result (rw (← c.self.view_is) at c.requires.nodes) least in
    let free : kind_at i.kinds.items c.least_free-node.result ≡ None = (rw c.deref.ensures.value at c.least_free-node.ensures.free) within in
    let drivers : (d : ℕ) → has d (map (λ (n : NodeId). n.0) c.args.drivers.now) ≡ true → kind_at v.kinds d ≢ None = λ d h. live-in v d ((rw (← c.self.view_is) at c.requires.drivers) d h) in
    λ d h. omega (arith, kind-within i.kinds.items d (drivers d h), g.room)

pub invariant_of-self : goal.invariant_of-self
invariant_of-self c =
    let i = c.self.inside in
    let v : Circuit = record { kinds = i.kinds.items; pool = i.pool; epoch = i.epoch } in
    let g : IsGraph v = c.self.invariant.0 in
    let least : kinds_live i.kinds.items c.least_free-node.result = rw c.deref.ensures.value at c.least_free-node.ensures.live in
    let within : c.least_free-node.result < length i.kinds.items = free-found i.kinds.items c.least_free-node.result (rw (← c.self.view_is) at c.requires.nodes) least in
    let free : kind_at i.kinds.items c.least_free-node.result ≡ None = (rw c.deref.ensures.value at c.least_free-node.ensures.free) within in
    let drivers : (d : ℕ) → has d (map (λ (n : NodeId). n.0) c.args.drivers.now) ≡ true → kind_at v.kinds d ≢ None = λ d h. live-in v d ((rw (← c.self.view_is) at c.requires.drivers) d h) in
    let w : Circuit = record { kinds = c.set_kind.new.kinds.items; pool = c.link_all.new.pool; epoch = i.epoch } in
    let a = fills v w c.least_free-node.result c.args.kind (map (λ (n : NodeId). n.0) c.args.drivers.now) c.tell_rings.ensures.rings g.wired free c.link_all.ensures.filled (λ m. ap (λ (x : Wiring). x.kind m) (c.set_kind.ensures.kinds i.pool)) drivers (λ i some. length-map c.args.drivers.now (λ (n : NodeId). n.0) ∙ parity-count c.args.kind (length c.args.drivers.now) c.requires.one c.requires.two i some) c.requires.kind in (
      record { wired = a.wired; room = omega (arith, g.room, c.link_all.ensures.nodes, c.set_kind.ensures.len); few = omega (arith, g.few, c.set_kind.ensures.len) },
      (live-next i.kinds.items c.set_kind.new.kinds.items i.pool c.least_free-node.result _ c.set_kind.ensures.kinds least (λ e. cc), (c.set_kind.ensures.dead, c.set_kind.ensures.free)),
    )

pub returns-clause-made : goal.returns-clause-made
returns-clause-made c =
    let i = c.self.inside in
    let v : Circuit = record { kinds = i.kinds.items; pool = i.pool; epoch = i.epoch } in
    let g : IsGraph v = c.self.invariant.0 in
    let least : kinds_live i.kinds.items c.least_free-node.result = rw c.deref.ensures.value at c.least_free-node.ensures.live in
    let within : c.least_free-node.result < length i.kinds.items = free-found i.kinds.items c.least_free-node.result (rw (← c.self.view_is) at c.requires.nodes) least in
    let free : kind_at i.kinds.items c.least_free-node.result ≡ None = (rw c.deref.ensures.value at c.least_free-node.ensures.free) within in
    let drivers : (d : ℕ) → has d (map (λ (n : NodeId). n.0) c.args.drivers.now) ≡ true → kind_at v.kinds d ≢ None = λ d h. live-in v d ((rw (← c.self.view_is) at c.requires.drivers) d h) in
    let w : Circuit = record { kinds = c.set_kind.new.kinds.items; pool = c.link_all.new.pool; epoch = i.epoch } in
    let a = fills v w c.least_free-node.result c.args.kind (map (λ (n : NodeId). n.0) c.args.drivers.now) c.tell_rings.ensures.rings g.wired free c.link_all.ensures.filled (λ m. ap (λ (x : Wiring). x.kind m) (c.set_kind.ensures.kinds i.pool)) drivers (λ i some. length-map c.args.drivers.now (λ (n : NodeId). n.0) ∙ parity-count c.args.kind (length c.args.drivers.now) c.requires.one c.requires.two i some) c.requires.kind in
    rw (← c.self.view_is) (record { number = record { free = dead-node v c.least_free-node.result free; least = λ m h. live-node v m (least m h) }; differs = a.differs; made = a.node })

pub returns-clause-fanouts : goal.returns-clause-fanouts
returns-clause-fanouts c =
    let i = c.self.inside in
    let v : Circuit = record { kinds = i.kinds.items; pool = i.pool; epoch = i.epoch } in
    let w : Circuit = record { kinds = c.set_kind.new.kinds.items; pool = c.link_all.new.pool; epoch = i.epoch } in
    rw (← c.self.view_is) (new-readers v w c.least_free-node.result (map (λ (n : NodeId). n.0) c.args.drivers.now) c.link_all.ensures.filled)

pub returns-clause-pins : goal.returns-clause-pins
returns-clause-pins c = rw (← c.self.view_is) c.link_all.ensures.taken

pub returns-clause-nodes : goal.returns-clause-nodes
returns-clause-nodes c =
    let i = c.self.inside in
    let least : kinds_live i.kinds.items c.least_free-node.result = rw c.deref.ensures.value at c.least_free-node.ensures.live in
    let within : c.least_free-node.result < length i.kinds.items = free-found i.kinds.items c.least_free-node.result (rw (← c.self.view_is) at c.requires.nodes) least in
    let free : kind_at i.kinds.items c.least_free-node.result ≡ None = (rw c.deref.ensures.value at c.least_free-node.ensures.free) within in
    rw (← c.self.view_is) (omega (arith, c.set_kind.ensures.count, bit-none (kind_at i.kinds.items c.least_free-node.result) free, c.set_kind.ensures.len, free-within i.kinds.items))

pub set_kind-requires-clause-node : goal.set_kind-requires-clause-node
set_kind-requires-clause-node c =
    let i = c.self.inside in
    let g = c.self.invariant.0 in
    let least : kinds_live i.kinds.items c.least_free-node.result = rw c.deref.ensures.value at c.least_free-node.ensures.live in
    let within : c.least_free-node.result < length i.kinds.items = free-found i.kinds.items c.least_free-node.result (rw (← c.self.view_is) at c.requires.nodes) least in
    within

pub overflow_add-self : goal.overflow_add-self
overflow_add-self c =
    let i = c.self.inside in
    let g = c.self.invariant.0 in
    let least : kinds_live i.kinds.items c.least_free-node.result = rw c.deref.ensures.value at c.least_free-node.ensures.live in
    let within : c.least_free-node.result < length i.kinds.items = free-found i.kinds.items c.least_free-node.result (rw (← c.self.view_is) at c.requires.nodes) least in
    omega (arith, within, g.few)

pub returns-clause-held : goal.returns-clause-held
returns-clause-held c =
    let i = c.self.inside in
    let v : Circuit = record { kinds = i.kinds.items; pool = i.pool; epoch = i.epoch } in
    let g : IsGraph v = c.self.invariant.0 in
    let least : kinds_live i.kinds.items c.least_free-node.result = rw c.deref.ensures.value at c.least_free-node.ensures.live in
    let within : c.least_free-node.result < length i.kinds.items = free-found i.kinds.items c.least_free-node.result (rw (← c.self.view_is) at c.requires.nodes) least in
    let free : kind_at i.kinds.items c.least_free-node.result ≡ None = (rw c.deref.ensures.value at c.least_free-node.ensures.free) within in
    let drivers : (d : ℕ) → has d (map (λ (n : NodeId). n.0) c.args.drivers.now) ≡ true → kind_at v.kinds d ≢ None = λ d h. live-in v d ((rw (← c.self.view_is) at c.requires.drivers) d h) in
    let w : Circuit = record { kinds = c.set_kind.new.kinds.items; pool = c.link_all.new.pool; epoch = i.epoch } in
    let a = fills v w c.least_free-node.result c.args.kind (map (λ (n : NodeId). n.0) c.args.drivers.now) c.tell_rings.ensures.rings g.wired free c.link_all.ensures.filled (λ m. ap (λ (x : Wiring). x.kind m) (c.set_kind.ensures.kinds i.pool)) drivers (λ i some. length-map c.args.drivers.now (λ (n : NodeId). n.0) ∙ parity-count c.args.kind (length c.args.drivers.now) c.requires.one c.requires.two i some) c.requires.kind in
    let gw : IsGraph w = record { wired = a.wired; room = omega (arith, g.room, c.link_all.ensures.nodes, c.set_kind.ensures.len); few = omega (arith, g.few, c.set_kind.ensures.len) } in
    let more = linked-filled v.pool w.pool c.link_all.ensures.nodes c.least_free-node.result (map (λ (n : NodeId). n.0) c.args.drivers.now) c.link_all.ensures.filled (omega (arith, within, g.room)) (dead-pins v g.wired.shape c.least_free-node.result free) in
    rw (← c.self.view_is) (held-by v w c.tell_rings.ensures.rings c.link_all.ensures.filled.rings g gw (omega (arith, more, length-map c.args.drivers.now (λ (n : NodeId). n.0), c.link_all.ensures.taken)))
