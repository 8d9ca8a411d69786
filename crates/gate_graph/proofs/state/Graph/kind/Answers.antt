use Rattle.std.proofs.Common.{sym, ◌∙◌}
use Rattle.gate_graph.specs.Circuit.{Circuit}
use Rattle.gate_graph.proofs.Formed.{kind_of-net}
use Rattle.gate_graph.proofs.state.Graph.kind.Goals as goal

pub returns : goal.returns
returns c =
    let i = c.self.inside in
    let v : Circuit = record { kinds = i.kinds.items; pool = i.pool; epoch = i.epoch } in
    rw (← c.self.view_is) (rw c.deref.ensures.value at c.stored_kind.ensures ∙ sym (kind_of-net v c.args.node.0))
