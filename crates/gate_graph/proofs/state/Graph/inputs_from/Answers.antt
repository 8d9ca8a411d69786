use Rattle.std.proofs.Common.{◌≡◌, map, arith, ap, sym, ◌∙◌, Some, None, drop}
use Rattle.gate_net.specs.declared.Kind.TheVariants.{One}
use Rattle.pin_pool.specs.Ring.{has}
use Rattle.gate_graph.specs.Circuit.{Circuit, gate_pins, home}
use Rattle.gate_graph.specs.Inner.Circuit.{IsGraph}
use Rattle.std.proofs.lemmas.List.{length-map, drop-map}
use Rattle.gate_graph.proofs.LeadOns.{live-in}
use Rattle.gate_graph.proofs.KindAt.{kind-within}
use Rattle.gate_graph.proofs.Pinned.{linked-gate, drivers-all}
use Rattle.gate_graph.proofs.state.Graph.inputs_from.Goals as goal
use Rattle.pin_pool.proofs.Public.{has-drop}

pub pins_of_gate_from-pins-requires-clause-one : goal.pins_of_gate_from-pins-requires-clause-one
pins_of_gate_from-pins-requires-clause-one c =
    let i = c.self.inside in
    let v : Circuit = record { kinds = i.kinds.items; pool = i.pool; epoch = i.epoch } in
    let g : IsGraph v = c.self.invariant.0 in
    omega (arith, kind-within i.kinds.items 1 (λ none. (let both : Some One ≡ None = sym g.wired.shape.one_is ∙ none in cc)), g.room)

pub pins_of_gate_from-pins-requires-clause-gate : goal.pins_of_gate_from-pins-requires-clause-gate
pins_of_gate_from-pins-requires-clause-gate c =
    let i = c.self.inside in
    let v : Circuit = record { kinds = i.kinds.items; pool = i.pool; epoch = i.epoch } in
    let g : IsGraph v = c.self.invariant.0 in
    omega (arith, kind-within i.kinds.items c.args.node.0 (live-in v c.args.node.0 (rw (← c.self.view_is) at c.requires)), g.room)

pub pins_of_gate_from-pins-requires-clause-none : goal.pins_of_gate_from-pins-requires-clause-none
pins_of_gate_from-pins-requires-clause-none c = c.self.invariant.0.wired.shape.one_reads

pub invariant_of-result : goal.invariant_of-result
invariant_of-result c =
    let i = c.self.inside in
    let v : Circuit = record { kinds = i.kinds.items; pool = i.pool; epoch = i.epoch } in
    let g : IsGraph v = c.self.invariant.0 in
    (c.tell_rings.ensures.rings, λ p h. linked-gate v g.wired.shape c.args.node.0 p (has-drop (gate_pins i.pool c.args.node.0) c.args.position p (ap (has p) (sym c.pins_of_gate_from-pins.ensures.pins) ∙ h)))

pub returns-clause-drivers : goal.returns-clause-drivers
returns-clause-drivers c =
    let i = c.self.inside in
    let v : Circuit = record { kinds = i.kinds.items; pool = i.pool; epoch = i.epoch } in
    let g : IsGraph v = c.self.invariant.0 in
    rw (← c.self.view_is) (ap (map (home i.pool.fanouts)) c.pins_of_gate_from-pins.ensures.pins ∙ sym (drop-map (home i.pool.fanouts) c.args.position (gate_pins i.pool c.args.node.0)) ∙ ap (drop c.args.position) (sym (drivers-all v g.wired.shape c.args.node.0)))

pub returns-clause-few : goal.returns-clause-few
returns-clause-few c = omega (arith, length-map c.pins_of_gate_from-pins.result (home c.self.inside.pool.fanouts), c.pins_of_gate_from-pins.ensures.few)
