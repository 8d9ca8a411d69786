use Rattle.std.proofs.Common.{arith}
use Rattle.gate_graph.specs.Circuit.{Circuit}
use Rattle.gate_graph.specs.Inner.Circuit.{IsGraph}
use Rattle.gate_graph.proofs.Numbers.{free-within}
use Rattle.gate_graph.proofs.state.Graph.live_count.Goals as goal

pub overflow_sub-result : goal.overflow_sub-result
overflow_sub-result c =
    let v : Circuit = record { kinds = c.self.inside.kinds.items; pool = c.self.inside.pool; epoch = c.self.inside.epoch } in
    let g : IsGraph v = c.self.invariant.0 in
    omega (arith, free-within v.kinds, c.self.invariant.1.1.1, c.len.ensures, c.self.inside.kinds.ok.0, g.few)

pub returns : goal.returns
returns c =
    let v : Circuit = record { kinds = c.self.inside.kinds.items; pool = c.self.inside.pool; epoch = c.self.inside.epoch } in
    let g : IsGraph v = c.self.invariant.0 in
    rw (← c.self.view_is) (omega (arith, free-within v.kinds, c.self.invariant.1.1.1, c.len.ensures, c.self.inside.kinds.ok.0, g.few))
