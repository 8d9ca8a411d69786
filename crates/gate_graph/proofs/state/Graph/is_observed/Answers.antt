use Rattle.std.proofs.Common.{None, length, ap, arith}
use Rattle.std.proofs.lemmas.Bool.{false≢true}
use Rattle.std.proofs.lemmas.List.{get_or_past}
use Rattle.gate_graph.specs.Circuit.{Circuit}
use Rattle.gate_graph.specs.Inner.Circuit.{IsGraph}
use Rattle.gate_graph.proofs.Placed.{observed-pin, observed-cases}
use Rattle.gate_graph.proofs.state.Graph.is_observed.Goals as goal

pub returns-then-node-len : goal.returns-then-node-len
returns-then-node-len c = (
  λ t. absurd (false≢true t),
  λ o.
      let v = c.args.self.now in
      let g = c.tell.ensures.graph in
      let p = observed-pin v c.tell.ensures.rings g.wired.shape c.args.node.0 o in
      let kinds = ap (λ (u : Circuit). length u.kinds) c.self.view_is in
      absurd (g.wired.shape.drivers_live c.args.node.0 p.0 p.1.0 (get_or_past v.kinds c.args.node.0 None (omega (arith, c.if-node-len.true, c.len.ensures, kinds, c.self.inside.kinds.ok.0)))),
)

pub observes-requires-clause-within : goal.observes-requires-clause-within
observes-requires-clause-within c =
    let g = c.tell.ensures.graph in
    let inputs = ap (λ (u : Circuit). length u.pool.inputs) c.self.view_is in
    let kinds = ap (λ (u : Circuit). length u.kinds) c.self.view_is in
    omega (arith, g.room, c.tell.ensures.nodes, inputs, kinds, c.if-node-len.false, c.len.ensures, c.self.inside.kinds.ok.0)

pub observes-requires-clause-linked : goal.observes-requires-clause-linked
observes-requires-clause-linked c p h =
    let i = c.self.inside in
    let v : Circuit = record { kinds = i.kinds.items; pool = i.pool; epoch = i.epoch } in
    let g : IsGraph v = c.self.invariant.0 in
    g.wired.shape.read c.args.node.0 p h

pub returns : goal.returns
returns c =
    let i = c.self.inside in
    let v : Circuit = record { kinds = i.kinds.items; pool = i.pool; epoch = i.epoch } in
    let g : IsGraph v = c.self.invariant.0 in
    let rings = rw (← c.self.view_is) at c.tell.ensures.rings in
    rw (← c.self.view_is) (observed-cases v rings g.wired.shape c.args.node.0 c.observes.result c.observes.ensures.found c.observes.ensures.none)
