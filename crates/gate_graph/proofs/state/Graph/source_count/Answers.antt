use Rattle.std.proofs.Common.{length, ap, arith}
use Rattle.gate_graph.specs.Circuit.{Circuit}
use Rattle.gate_graph.specs.Inner.Circuit.{IsGraph}
use Rattle.gate_graph.proofs.Counted.{sources-are, sources-ended}
use Rattle.gate_graph.proofs.state.Graph.source_count.Goals as goal

pub first_sources-requires : goal.first_sources-requires
first_sources-requires c =
    let g : IsGraph (record { kinds = c.self.inside.kinds.items; pool = c.self.inside.pool; epoch = c.self.inside.epoch }) = c.self.invariant.0 in
    omega (arith, g.few, ap length c.deref-2.ensures.value)

pub returns-then-are_sources : goal.returns-then-are_sources
returns-then-are_sources c =
    let v : Circuit = record { kinds = c.self.inside.kinds.items; pool = c.self.inside.pool; epoch = c.self.inside.epoch } in
    let g : IsGraph v = c.self.invariant.0 in
    rw (← c.self.view_is) (sources-ended v g.wired.shape c.self.inside.sources (rw c.deref.ensures.value at c.are_sources.ensures.last c.if-are_sources.true) (rw c.deref.ensures.value at c.are_sources.ensures.end c.if-are_sources.true))

pub returns : goal.returns
returns c =
    let v : Circuit = record { kinds = c.self.inside.kinds.items; pool = c.self.inside.pool; epoch = c.self.inside.epoch } in
    let g : IsGraph v = c.self.invariant.0 in
    rw (← c.self.view_is) (sources-are v g.wired.shape c.first_sources.result (rw c.deref-2.ensures.value at c.first_sources.ensures.all) (rw c.deref-2.ensures.value at c.first_sources.ensures.end))
