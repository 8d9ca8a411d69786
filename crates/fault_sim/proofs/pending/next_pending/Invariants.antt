use Rattle.std.proofs.Common.{ℕ, ◌*◌, ◌+◌, ◌<◌, ◌≤◌}
use Rattle.fault_sim.specs.Pending.{IsIdle}
use Rattle.fault_sim.proofs.pending.next_pending.Given as goal

abbrev pub invariant-loop-word : goal.invariant-loop-word
invariant-loop-word l = record {
  from : l.from ≤ 64 * l.word + l.bit;
  bit : l.bit < 64;
  none : (k : ℕ) → l.from ≤ k → k < 64 * l.word + l.bit → IsIdle l.pending k;
}
