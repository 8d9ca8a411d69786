use Rattle.std.proofs.Common.{arith}
use Rattle.gate_graph.specs.Circuit.{Circuit}
use Rattle.gate_graph.specs.Inner.Circuit.{IsGraph}
use Rattle.gate_graph.proofs.Counted.{numbers-are}
use Rattle.gate_graph.proofs.state.Graph.gate_count.Goals as goal

pub overflow_sub-result : goal.overflow_sub-result
overflow_sub-result c =
    let v : Circuit = record { kinds = c.self.inside.kinds.items; pool = c.self.inside.pool; epoch = c.self.inside.epoch } in
    let g : IsGraph v = c.self.invariant.0 in
    omega (arith, numbers-are v g.wired.shape, c.self.invariant.1.1.1, c.len.ensures, c.self.inside.kinds.ok.0, g.few, rw (← c.self.view_is) at c.source_count-sources.ensures)

pub overflow_sub-result-2 : goal.overflow_sub-result-2
overflow_sub-result-2 c =
    let v : Circuit = record { kinds = c.self.inside.kinds.items; pool = c.self.inside.pool; epoch = c.self.inside.epoch } in
    let g : IsGraph v = c.self.invariant.0 in
    omega (arith, numbers-are v g.wired.shape, c.self.invariant.1.1.1, c.len.ensures, c.self.inside.kinds.ok.0, g.few, rw (← c.self.view_is) at c.source_count-sources.ensures)

pub overflow_sub-result-3 : goal.overflow_sub-result-3
overflow_sub-result-3 c =
    let v : Circuit = record { kinds = c.self.inside.kinds.items; pool = c.self.inside.pool; epoch = c.self.inside.epoch } in
    let g : IsGraph v = c.self.invariant.0 in
    omega (arith, numbers-are v g.wired.shape, c.self.invariant.1.1.1, c.len.ensures, c.self.inside.kinds.ok.0, g.few, rw (← c.self.view_is) at c.source_count-sources.ensures)

pub returns : goal.returns
returns c =
    let v : Circuit = record { kinds = c.self.inside.kinds.items; pool = c.self.inside.pool; epoch = c.self.inside.epoch } in
    let g : IsGraph v = c.self.invariant.0 in
    rw (← c.self.view_is) (omega (arith, numbers-are v g.wired.shape, c.self.invariant.1.1.1, c.len.ensures, c.self.inside.kinds.ok.0, g.few, rw (← c.self.view_is) at c.source_count-sources.ensures))
