use Rattle.std.proofs.Common.{◌≡◌, ◌++◌, map}
use Rattle.gate_graph.specs.Circuit.{fanouts_of}
use Rattle.changed_nodes.proofs.changes.add_readers.Given as goal

abbrev pub invariant-loop-reader : goal.invariant-loop-reader
invariant-loop-reader l = record {
  all : map (λ place. place.0) (fanouts_of l.graph l.fn.node.0) ≡ map (λ n. n.0) l.yielded ++ l.reader-iterator;
  nodes : l.nodes.items ≡ l.initial.nodes.items ++ l.yielded;
}
