use Rattle.gate_graph.specs.Circuit.{net_of}
use Rattle.candidate_vectors.specs.Vectors.{HaveValues}
use Rattle.candidate_vectors.proofs.drawing.drawn_vectors.Given as goal

abbrev pub invariant-loop-number : goal.invariant-loop-number
invariant-loop-number l = HaveValues (net_of l.graph) l.vectors.items
