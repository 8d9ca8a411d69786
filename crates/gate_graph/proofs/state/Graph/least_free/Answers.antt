use Rattle.std.proofs.Common.{length, ap, arith}
use Rattle.gate_graph.specs.Circuit.{Circuit}
use Rattle.gate_graph.specs.Inner.Circuit.{IsGraph}
use Rattle.gate_graph.proofs.Formed.{least-net}
use Rattle.gate_graph.proofs.state.Graph.least_free.Goals as goal

pub least_free-requires-clause-few : goal.least_free-requires-clause-few
least_free-requires-clause-few c =
    let g : IsGraph (record { kinds = c.self.inside.kinds.items; pool = c.self.inside.pool; epoch = c.self.inside.epoch }) = c.self.invariant.0 in
    omega (arith, g.few, ap length c.deref.ensures.value)

pub returns : goal.returns
returns c =
    let v : Circuit = record { kinds = c.self.inside.kinds.items; pool = c.self.inside.pool; epoch = c.self.inside.epoch } in
    rw (← c.self.view_is) (least-net v c.least_free.result (rw c.deref.ensures.value at c.least_free.ensures.live) (rw c.deref.ensures.value at c.least_free.ensures.free))
