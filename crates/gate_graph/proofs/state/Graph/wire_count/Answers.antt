use Rattle.std.proofs.Common.{arith}
use Rattle.gate_graph.specs.Circuit.{Circuit}
use Rattle.gate_graph.specs.Inner.Circuit.{IsGraph}
use Rattle.gate_graph.proofs.Counted.{nodes-there}
use Rattle.gate_graph.proofs.HeldPins.{observed-counted, wires-all}
use Rattle.gate_graph.proofs.state.Graph.wire_count.Goals as goal

pub input_count-requires : goal.input_count-requires
input_count-requires c =
    let v : Circuit = record { kinds = c.self.inside.kinds.items; pool = c.self.inside.pool; epoch = c.self.inside.epoch } in
    let g : IsGraph v = c.self.invariant.0 in
    nodes-there v g

pub overflow_sub-result : goal.overflow_sub-result
overflow_sub-result c =
    let v : Circuit = record { kinds = c.self.inside.kinds.items; pool = c.self.inside.pool; epoch = c.self.inside.epoch } in
    let g : IsGraph v = c.self.invariant.0 in
    omega (arith, wires-all v g, observed-counted v, c.linked_count.ensures, c.input_count.ensures)

pub returns : goal.returns
returns c =
    let v : Circuit = record { kinds = c.self.inside.kinds.items; pool = c.self.inside.pool; epoch = c.self.inside.epoch } in
    let g : IsGraph v = c.self.invariant.0 in
    rw (← c.self.view_is) (omega (arith, wires-all v g, observed-counted v, c.linked_count.ensures, c.input_count.ensures))
