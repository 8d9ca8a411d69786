use Rattle.std.proofs.Common.{◌≡◌, ◌++◌, ℕ, map, Some}
use Rattle.std.specs.Prelude.{slice_get}
use Rattle.gate_net.specs.Net.{IsKind}
use Rattle.gate_net.specs.declared.Kind.TheVariants.{Not}
use Rattle.gate_graph.specs.Circuit.{fanouts_of, net_of}
use Rattle.candidate_wires.proofs.known.has_no_not.Given as goal

abbrev pub invariant-loop-reader : goal.invariant-loop-reader
invariant-loop-reader l = record {
  all : map (λ place. place.0) (fanouts_of l.graph l.fn.node.0) ≡ map (λ n. n.0) l.yielded ++ l.reader-iterator;
  none : (j z : ℕ) → slice_get (map (λ n. n.0) l.yielded) j ≡ Some z → IsKind (net_of l.graph) z Not → ⊥;
}
