use Rattle.std.proofs.Common.{◌≡◌, ◌⊎◌, ◌++◌, ℕ, length, map}
use Rattle.std.specs.Prelude.{slice_get, slice_index, Some}
use Rattle.gate_graph.specs.Circuit.{fanouts_of, net_of}
use Rattle.fault_sim.specs.Pending.{IsPending}
use Rattle.fault_sim.specs.Inner.Spreading.{IsReaderAt}
use Rattle.fault_sim.proofs.spreading.mark_readers.Given as goal

abbrev pub invariant-loop-reader : goal.invariant-loop-reader
invariant-loop-reader l = record {
  all : map (λ place. place.0) (fanouts_of l.graph l.fn.node.0) ≡ map (λ n. n.0) l.yielded ++ l.reader-iterator;
  size : length l.pending.items ≡ length l.fn.pending.items;
  kept : (k : ℕ) → IsPending l.fn.pending.items k → IsPending l.pending.items k;
  only : (k : ℕ) → IsPending l.pending.items k → IsPending l.fn.pending.items k ⊎ IsReaderAt (net_of l.graph) l.fn.node.0 l.places k;
  marked : (j z : ℕ) → slice_get (map (λ n. n.0) l.yielded) j ≡ Some z → IsPending l.pending.items (slice_index l.places z);
}
