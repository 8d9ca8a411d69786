use Rattle.std.proofs.Common.{◌≡◌, map, sym, ap, ◌∙◌, arith}
use Rattle.rm_base.specs.declared.numbers.NodeId.{NodeId}
use Rattle.gate_graph.specs.Wirings.{kind_at}
use Rattle.gate_graph.specs.Circuit.{Circuit}
use Rattle.gate_graph.specs.Inner.Circuit.{IsGraph}
use Rattle.gate_graph.proofs.Following.{started-step, followed-start}
use Rattle.gate_graph.proofs.state.Graph.start_order.Goals as goal

pub loop-node-preserved : goal.loop-node-preserved
loop-node-preserved c =
    let i = c.self.inside in
    let v : Circuit = record { kinds = i.kinds.items; pool = i.pool; epoch = i.epoch } in
    let l = c.loop-node.invariant in
    let is : c.stored_kind.result ≡ kind_at i.kinds.items c.loop-node.node = rw c.deref.ensures.value at c.stored_kind.ensures in
    let e = c.in_ok-list_ready.ensures in
    record {
      started = started-step v c.loop-node.left.items c.push.new.self.items (map (λ (n : NodeId). n.0) c.loop-node.order.items) (map (λ (n : NodeId). n.0) c.list_ready.new.order.items) c.loop-node.node c.count_gate_pins-pins.result l.started c.count_gate_pins-pins.ensures
          c.in_ok-push.ensures.items (λ live none. e.ready (λ dead. live (sym is ∙ dead)) none) (λ dead. ap (map (λ (n : NodeId). n.0)) (e.dead (is ∙ dead))) (λ some. ap (map (λ (n : NodeId). n.0)) (e.more some));
      high = omega (arith, c.loop-node-test.true, c.len-node-end.ensures, i.kinds.ok.0);
    }

pub returns : goal.returns
returns c =
    let i = c.self.inside in
    let v : Circuit = record { kinds = i.kinds.items; pool = i.pool; epoch = i.epoch } in
    let g : IsGraph v = c.self.invariant.0 in
    let l = c.loop-node.invariant in
    rw (← c.self.view_is) (followed-start v c.loop-node.left.items (map (λ (n : NodeId). n.0) c.loop-node.order.items) c.loop-node.node l.started (omega (arith, l.high, c.loop-node-test.false, c.len-node-end.ensures, i.kinds.ok.0, g.few)))
