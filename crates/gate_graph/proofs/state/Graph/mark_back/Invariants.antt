use Rattle.std.proofs.Common.{◌-◌, length}
use Rattle.gate_graph.specs.Circuit.{net_of}
use Rattle.gate_graph.specs.Inner.Search.{Searched}
use Rattle.gate_graph.proofs.state.Graph.mark_back.Given as goal

abbrev pub invariant-loop-next : goal.invariant-loop-next
invariant-loop-next l = Searched (net_of l.self) l.fn.to.0 l.seen l.queue l.next l.end

abbrev pub decreases-loop-next : goal.decreases-loop-next
decreases-loop-next l = length l.queue - l.next
