use Rattle.std.proofs.Common.{map, sym, ap, ◌∙◌}
use Rattle.gate_graph.specs.Circuit.{Circuit, home}
use Rattle.gate_graph.proofs.NetOf.{observed-net}
use Rattle.gate_graph.proofs.state.Graph.observed_points.Goals as goal

pub returns-clause-observed : goal.returns-clause-observed
returns-clause-observed c =
    let i = c.self.inside in
    let v : Circuit = record { kinds = i.kinds.items; pool = i.pool; epoch = i.epoch } in
    rw (← c.self.view_is) (ap (map (home i.pool.fanouts)) c.inputs.ensures.list ∙ sym (observed-net v))
