use Rattle.std.proofs.Common.{◌≡◌, ◌++◌, map}
use Rattle.pin_pool.specs.Pins.{list_of}
use Rattle.gate_graph.specs.Circuit.{Circuit}
use Rattle.gate_graph.specs.Order.{IsFollowing}
use Rattle.gate_graph.proofs.state.Graph.follow.Given as goal

abbrev pub invariant-loop-pin : goal.invariant-loop-pin
invariant-loop-pin l = record {
  all : list_of l.self-inside.pool.fanouts l.node ≡ map (λ p. p.0) l.yielded ++ l.pin-iterator;
  following : (let w : Circuit = record { kinds = l.self-inside.kinds.items; pool = l.self-inside.pool; epoch = l.self-inside.epoch } in IsFollowing w l.left (map (λ n. n.0) l.order.items) l.fn.next l.node (map (λ p. p.0) l.yielded));
}
