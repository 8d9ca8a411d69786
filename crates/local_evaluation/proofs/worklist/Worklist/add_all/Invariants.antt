use Rattle.std.proofs.Common.{length, ℕ, ◌+◌, ◌<◌, ◌≡◌, ◌≤◌}
use Rattle.gate_graph.specs.Search.{IsSeen}
use Rattle.local_evaluation.proofs.worklist.Worklist.add_all.Given as goal

abbrev pub invariant-loop-number : goal.invariant-loop-number
invariant-loop-number l = record { all : (z : ℕ) → z < l.bound → l.bound ≤ z + l.number → IsSeen l.self z; size : length l.self ≡ length l.initial.self }
