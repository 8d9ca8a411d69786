use Rattle.std.proofs.Common.{◌≡◌, ◌<◌, ◌++◌, ℕ, length, map}
use Rattle.std.specs.Prelude.{slice_get, slice_set, Some}
use Rattle.fault_sim.specs.Words.{lane_values}
use Rattle.journal_check.proofs.tracing.stuck_junction.Given as goal

abbrev pub invariant-loop-driver : goal.invariant-loop-driver
invariant-loop-driver l = record {
  all : l.fn.drivers ≡ map (λ d. d.0) l.yielded ++ l.driver-iterator;
  count : l.place ≡ length l.yielded;
  none : (k : ℕ) → k < l.place → slice_get (slice_set (map (lane_values l.lanes.good l.lane) l.fn.drivers) l.fault.position l.fault.value) k ≡ Some l.controlling → ⊥;
}
