use Rattle.std.proofs.Common.{◌≡◌, map, arith, ap, sym, ◌∙◌, refl}
use Rattle.std.proofs.lemmas.Bool.{ne_eqb}
use Rattle.std.proofs.lemmas.List.{length-map}
use Rattle.pin_pool.specs.Ring.{has}
use Rattle.pin_pool.specs.Pins.{list_of}
use Rattle.gate_graph.specs.Circuit.{Circuit, gate_pins, home}
use Rattle.gate_graph.specs.Inner.Circuit.{IsGraph}
use Rattle.gate_graph.proofs.LeadOns.{live-in}
use Rattle.gate_graph.proofs.KindAt.{kind-within}
use Rattle.gate_graph.proofs.Pinned.{drivers-all, linked-by}
use Rattle.gate_graph.proofs.Retiring.{gate-not_zero}
use Rattle.gate_graph.proofs.state.Graph.gate_inputs.Goals as goal

pub inputs-pins-requires : goal.inputs-pins-requires
inputs-pins-requires c =
    let i = c.self.inside in
    let v : Circuit = record { kinds = i.kinds.items; pool = i.pool; epoch = i.epoch } in
    let g : IsGraph v = c.self.invariant.0 in
    let gate = rw (← c.self.view_is) at c.requires in
    omega (arith, kind-within i.kinds.items c.args.gate.0 (live-in v c.args.gate.0 (gate.0, gate.1.0)), g.room)

pub invariant_of-result : goal.invariant_of-result
invariant_of-result c =
    let i = c.self.inside in
    let v : Circuit = record { kinds = i.kinds.items; pool = i.pool; epoch = i.epoch } in
    let g : IsGraph v = c.self.invariant.0 in
    (c.tell_rings.ensures.rings, λ p h. linked-by v g.wired.shape c.args.gate.0 p (ap (has p) (sym c.inputs-pins.ensures.list) ∙ h))

pub returns-clause-drivers : goal.returns-clause-drivers
returns-clause-drivers c =
    let i = c.self.inside in
    let v : Circuit = record { kinds = i.kinds.items; pool = i.pool; epoch = i.epoch } in
    let g : IsGraph v = c.self.invariant.0 in
    let gate = rw (← c.self.view_is) at c.requires in
    let pins : gate_pins i.pool c.args.gate.0 ≡ list_of i.pool.inputs c.args.gate.0 = rw (ne_eqb c.args.gate.0 0 (gate-not_zero v c.args.gate.0 g.wired.shape gate)) refl in
    rw (← c.self.view_is) (ap (map (home i.pool.fanouts)) (c.inputs-pins.ensures.list ∙ sym pins) ∙ sym (drivers-all v g.wired.shape c.args.gate.0))

pub returns-clause-few : goal.returns-clause-few
returns-clause-few c = omega (arith, length-map c.inputs-pins.result (home c.self.inside.pool.fanouts), c.inputs-pins.ensures.few)
