use Rattle.std.proofs.Common.{arith}
use Rattle.gate_graph.specs.Circuit.{Circuit}
use Rattle.gate_graph.specs.Inner.Circuit.{IsGraph}
use Rattle.gate_graph.proofs.KindAt.{kind-within}
use Rattle.gate_graph.proofs.LeadOns.{live-in}
use Rattle.gate_graph.proofs.InUse.{unread, unobserved, used}
use Rattle.gate_graph.proofs.state.Graph.is_in_use.Goals as goal

pub has_fanout-requires : goal.has_fanout-requires
has_fanout-requires c =
    let v : Circuit = record { kinds = c.self.inside.kinds.items; pool = c.self.inside.pool; epoch = c.self.inside.epoch } in
    let g : IsGraph v = c.self.invariant.0 in
    omega (arith, kind-within v.kinds c.args.node.0 (live-in v c.args.node.0 (rw (← c.self.view_is) at c.requires)), g.room)

pub returns-clause-unread : goal.returns-clause-unread
returns-clause-unread c idle =
    let v : Circuit = record { kinds = c.self.inside.kinds.items; pool = c.self.inside.pool; epoch = c.self.inside.epoch } in
    let g : IsGraph v = c.self.invariant.0 in
    rw (← c.self.view_is) (unread v c.args.node.0 (c.has_fanout.ensures.none idle))

pub returns-clause-unobserved : goal.returns-clause-unobserved
returns-clause-unobserved c idle at =
    let v : Circuit = record { kinds = c.self.inside.kinds.items; pool = c.self.inside.pool; epoch = c.self.inside.epoch } in
    let g : IsGraph v = c.self.invariant.0 in
    unobserved v (rw (← c.self.view_is) at c.tell.ensures.rings) g.wired.shape c.args.node.0 (c.has_fanout.ensures.none idle) (rw (← c.self.view_is) at at)

pub returns-clause-used : goal.returns-clause-used
returns-clause-used c is none =
    let v : Circuit = record { kinds = c.self.inside.kinds.items; pool = c.self.inside.pool; epoch = c.self.inside.epoch } in
    let g : IsGraph v = c.self.invariant.0 in
    rw (← c.self.view_is) (used v (rw (← c.self.view_is) at c.tell.ensures.rings) g.wired.shape c.args.node.0 (c.has_fanout.ensures.some is) (rw (← c.self.view_is) at none))
