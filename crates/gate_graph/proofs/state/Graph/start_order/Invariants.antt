use Rattle.std.proofs.Common.{map, ◌≤◌, length}
use Rattle.gate_graph.specs.Circuit.{Circuit}
use Rattle.gate_graph.specs.Order.{IsStarted}
use Rattle.gate_graph.proofs.state.Graph.start_order.Given as goal

abbrev pub invariant-loop-node : goal.invariant-loop-node
invariant-loop-node l = record {
  started : (let w : Circuit = record { kinds = l.self-inside.kinds.items; pool = l.self-inside.pool; epoch = l.self-inside.epoch } in IsStarted w l.left.items (map (λ n. n.0) l.order.items) l.node);
  high : l.node ≤ length l.self-inside.kinds.items;
}
