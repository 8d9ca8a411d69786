use Rattle.std.proofs.Common.{arith, refl}
use Rattle.gate_graph.specs.Circuit.{Circuit}
use Rattle.gate_graph.proofs.Observing.{observes, observed-readers}
use Rattle.gate_graph.proofs.LeadOns.{live-in}
use Rattle.gate_graph.proofs.KindAt.{kind-within}
use Rattle.gate_graph.proofs.HeldPins.{held-by}
use Rattle.pin_pool.proofs.Public.{linked-more}
use Rattle.std.proofs.Common.{◌∷◌, [], length-append, ap}
use Rattle.pin_pool.specs.Rings.{Rings}
use Rattle.pin_pool.specs.Pins.{list_of}
use Rattle.gate_graph.specs.Inner.Circuit.{IsGraph}
use Rattle.gate_graph.proofs.Counted.{live-numbers}
use Rattle.gate_graph.proofs.state.Graph.link_observed.Goals as goal

pub link_new-pin-requires-clause-driver : goal.link_new-pin-requires-clause-driver
link_new-pin-requires-clause-driver c =
    let i = c.self.inside in
    let v : Circuit = record { kinds = i.kinds.items; pool = i.pool; epoch = i.epoch } in
    omega (arith, kind-within i.kinds.items c.args.node.0 (live-in v c.args.node.0 (rw (← c.self.view_is) at c.requires.node)), c.self.invariant.0.room)

pub invariant_of-self : goal.invariant_of-self
invariant_of-self c =
    let i = c.self.inside in
    let v : Circuit = record { kinds = i.kinds.items; pool = i.pool; epoch = i.epoch } in
    let w : Circuit = record { kinds = i.kinds.items; pool = c.link_new-pin.new.pool; epoch = i.epoch } in
    let a = observes v w c.link_new-pin.result.0 c.args.node.0 refl c.link_new-pin.ensures.rings c.tell_rings.ensures.rings c.tell_rings-2.ensures.rings c.self.invariant.0.wired (live-in v c.args.node.0 (rw (← c.self.view_is) at c.requires.node)) c.link_new-pin.ensures.fresh in
    (record { wired = a.wired; room = omega (arith, c.self.invariant.0.room, c.link_new-pin.ensures.nodes); few = c.self.invariant.0.few }, c.self.invariant.1)

pub returns-clause-net : goal.returns-clause-net
returns-clause-net c =
    let i = c.self.inside in
    let v : Circuit = record { kinds = i.kinds.items; pool = i.pool; epoch = i.epoch } in
    let w : Circuit = record { kinds = i.kinds.items; pool = c.link_new-pin.new.pool; epoch = i.epoch } in
    let a = observes v w c.link_new-pin.result.0 c.args.node.0 refl c.link_new-pin.ensures.rings c.tell_rings.ensures.rings c.tell_rings-2.ensures.rings c.self.invariant.0.wired (live-in v c.args.node.0 (rw (← c.self.view_is) at c.requires.node)) c.link_new-pin.ensures.fresh in
    rw (← c.self.view_is) a.net

pub returns-clause-fanouts : goal.returns-clause-fanouts
returns-clause-fanouts c =
    let i = c.self.inside in
    let v : Circuit = record { kinds = i.kinds.items; pool = i.pool; epoch = i.epoch } in
    let w : Circuit = record { kinds = i.kinds.items; pool = c.link_new-pin.new.pool; epoch = i.epoch } in
    rw (← c.self.view_is) (observed-readers v w c.link_new-pin.result.0 c.args.node.0 c.link_new-pin.ensures.rings c.tell_rings.ensures.rings c.tell_rings-2.ensures.rings c.link_new-pin.ensures.fresh)

pub returns-clause-pins : goal.returns-clause-pins
returns-clause-pins c = rw (← c.self.view_is) c.link_new-pin.ensures.taken

pub returns-clause-held : goal.returns-clause-held
returns-clause-held c =
    let i = c.self.inside in
    let v : Circuit = record { kinds = i.kinds.items; pool = i.pool; epoch = i.epoch } in
    let w : Circuit = record { kinds = i.kinds.items; pool = c.link_new-pin.new.pool; epoch = i.epoch } in
    let a = observes v w c.link_new-pin.result.0 c.args.node.0 refl c.link_new-pin.ensures.rings c.tell_rings.ensures.rings c.tell_rings-2.ensures.rings c.self.invariant.0.wired (live-in v c.args.node.0 (rw (← c.self.view_is) at c.requires.node)) c.link_new-pin.ensures.fresh in
    let gw : IsGraph w = record { wired = a.wired; room = omega (arith, c.self.invariant.0.room, c.link_new-pin.ensures.nodes); few = c.self.invariant.0.few } in
    let more = linked-more v.pool w.pool c.link_new-pin.ensures.nodes 0 1 _ (ap (λ (r : Rings). r.inputs) c.link_new-pin.ensures.rings) (omega (arith, live-numbers v c.self.invariant.0.wired.shape, c.self.invariant.0.room)) (length-append (list_of v.pool.inputs 0) (c.link_new-pin.result.0 ∷ [])) in
    rw (← c.self.view_is) (held-by v w c.tell_rings.ensures.rings c.tell_rings-2.ensures.rings c.self.invariant.0 gw (omega (arith, more, c.link_new-pin.ensures.taken)))
