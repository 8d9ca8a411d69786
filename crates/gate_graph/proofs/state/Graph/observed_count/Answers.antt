use Rattle.std.proofs.Common.{◌∙◌, sym}
use Rattle.gate_graph.specs.Circuit.{Circuit}
use Rattle.gate_graph.specs.Inner.Circuit.{IsGraph}
use Rattle.gate_graph.proofs.Counted.{nodes-there}
use Rattle.gate_graph.proofs.HeldPins.{observed-counted}
use Rattle.gate_graph.proofs.state.Graph.observed_count.Goals as goal

pub input_count-requires : goal.input_count-requires
input_count-requires c =
    let v : Circuit = record { kinds = c.self.inside.kinds.items; pool = c.self.inside.pool; epoch = c.self.inside.epoch } in
    let g : IsGraph v = c.self.invariant.0 in
    nodes-there v g

pub returns : goal.returns
returns c =
    let v : Circuit = record { kinds = c.self.inside.kinds.items; pool = c.self.inside.pool; epoch = c.self.inside.epoch } in
    let g : IsGraph v = c.self.invariant.0 in
    rw (← c.self.view_is) (c.input_count.ensures ∙ sym (observed-counted v))
