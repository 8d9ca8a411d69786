use Rattle.std.proofs.Common.{◌∙◌, ap, arith, sym, length}
use Rattle.std.proofs.lemmas.List.{length-map}
use Rattle.gate_graph.specs.Circuit.{Circuit, gate_pins, home}
use Rattle.gate_graph.specs.Inner.Circuit.{IsGraph}
use Rattle.gate_graph.proofs.KindAt.{kind-within}
use Rattle.gate_graph.proofs.LeadOns.{live-in}
use Rattle.gate_graph.proofs.Pinned.{drivers-all}
use Rattle.gate_graph.proofs.state.Graph.input_count.Goals as goal

pub count_gate_pins-requires : goal.count_gate_pins-requires
count_gate_pins-requires c =
    let v : Circuit = record { kinds = c.self.inside.kinds.items; pool = c.self.inside.pool; epoch = c.self.inside.epoch } in
    let g : IsGraph v = c.self.invariant.0 in
    omega (arith, kind-within v.kinds c.args.node.0 (live-in v c.args.node.0 (rw (← c.self.view_is) at c.requires)), g.room)

pub returns : goal.returns
returns c =
    let v : Circuit = record { kinds = c.self.inside.kinds.items; pool = c.self.inside.pool; epoch = c.self.inside.epoch } in
    let g : IsGraph v = c.self.invariant.0 in
    rw (← c.self.view_is) (c.count_gate_pins.ensures ∙ sym (ap length (drivers-all v g.wired.shape c.args.node.0) ∙ length-map (gate_pins v.pool c.args.node.0) (home v.pool.fanouts)))
