use Rattle.gate_graph.specs.Circuit.{net_of}
use Rattle.implications.proofs.Refitting.{ListsFirst}
use Rattle.implications.proofs.following.list_pinless.Given as goal

abbrev pub invariant-loop-node : goal.invariant-loop-node
invariant-loop-node l = ListsFirst (net_of l.graph) l.nodes l.node-index l.initial.pinless.items l.pinless.items
