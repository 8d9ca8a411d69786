use Rattle.std.proofs.Common.{◌≡◌, ◌<◌, ℕ, false}
use Rattle.std.specs.Prelude.{slice_index, slice_index_or}
use Rattle.fault_sim.specs.Words.{lane as lane_in}
use Rattle.test_patterns.proofs.groups.is_in_lane.Given as goal

abbrev pub invariant-loop-at : goal.invariant-loop-at
invariant-loop-at l = (k : ℕ) → k < l.at → lane_in l.lane (slice_index l.words k) ≡ slice_index_or l.vector k false
