use Rattle.std.proofs.Common.{List, ℕ, map, arith}
use Rattle.std.proofs.lemmas.List.{length-map}
use Rattle.rm_base.specs.declared.numbers.NodeId.{NodeId}
use Rattle.gate_graph.proofs.Following.{order-few, order-is}
use Rattle.gate_graph.proofs.state.Graph.order.Goals as goal

pub loop-next-smaller : goal.loop-next-smaller
loop-next-smaller c =
    let xs : List ℕ = map (λ (n : NodeId). n.0) c.loop-next.order.items in
    let few = order-few c.args.self.now c.loop-next.left.items xs c.loop-next.next c.loop-next.invariant in
    omega (arith, c.loop-next-test.true, c.len.ensures, c.loop-next.order.ok.0, few, length-map c.loop-next.order.items (λ (n : NodeId). n.0))

pub returns : goal.returns
returns c =
    let xs : List ℕ = map (λ (n : NodeId). n.0) c.loop-next.order.items in
    order-is c.args.self.now c.loop-next.left.items xs c.loop-next.next c.tell.ensures.rings c.tell.ensures.graph.wired c.loop-next.invariant (omega (arith, c.loop-next-test.false, c.len.ensures, c.loop-next.order.ok.0, length-map c.loop-next.order.items (λ (n : NodeId). n.0)))
