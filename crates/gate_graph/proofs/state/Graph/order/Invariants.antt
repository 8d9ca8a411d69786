use Rattle.std.proofs.Common.{◌-◌, map, length}
use Rattle.gate_graph.specs.Inner.Order.{IsFollowed}
use Rattle.gate_graph.proofs.state.Graph.order.Given as goal

abbrev pub invariant-loop-next : goal.invariant-loop-next
invariant-loop-next l = IsFollowed l.self l.left.items (map (λ n. n.0) l.order.items) l.next

abbrev pub decreases-loop-next : goal.decreases-loop-next
decreases-loop-next l = length l.self.kinds - l.next
