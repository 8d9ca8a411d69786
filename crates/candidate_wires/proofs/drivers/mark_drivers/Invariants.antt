use Rattle.std.proofs.Common.{◌≡◌, ◌++◌, ℕ, length, map, Some}
use Rattle.std.specs.Prelude.{slice_get}
use Rattle.gate_graph.specs.Circuit.{net_of}
use Rattle.gate_graph.specs.Search.{IsSeen}
use Rattle.gate_net.specs.Net.{drivers_of}
use Rattle.candidate_wires.proofs.drivers.mark_drivers.Given as goal

abbrev pub invariant-loop-driver : goal.invariant-loop-driver
invariant-loop-driver l = record {
  all : drivers_of (net_of l.graph) l.fn.gate.0 ≡ map (λ d. d.0) l.yielded ++ l.driver-iterator;
  size : length l.driving ≡ length l.fn.driving;
  marked : (j x : ℕ) → slice_get (map (λ d. d.0) l.yielded) j ≡ Some x → IsSeen l.driving x;
  sound : (x : ℕ) → IsSeen l.driving x → (j : ℕ) × (slice_get (map (λ d. d.0) l.yielded) j ≡ Some x);
}
