use Rattle.std.proofs.Common.{◌≡◌, ℕ, ◌<◌, length, get_or}
use Rattle.candidate_wires.proofs.node_set.clear_all.Given as goal

abbrev pub invariant-loop-place : goal.invariant-loop-place
invariant-loop-place l = record { none : (k : ℕ) → k < l.place → get_or l.stamps.items k 0 ≡ 0; size : length l.stamps.items ≡ length l.initial.stamps.items }
