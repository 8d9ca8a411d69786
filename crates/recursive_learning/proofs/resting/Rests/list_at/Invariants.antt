use Rattle.std.proofs.Common.{length, ℕ, ◌≡◌}
use Rattle.gate_graph.specs.Search.{IsSeen}
use Rattle.recursive_learning.proofs.Indexes.{SeesFrom}
use Rattle.recursive_learning.specs.Inner.Resting.{IsLast}
use Rattle.recursive_learning.proofs.resting.Rests.list_at.Given as goal

abbrev pub invariant-loop-number : goal.invariant-loop-number
invariant-loop-number l = record {
  kept : (y : ℕ) → IsSeen l.fn.listed y → IsSeen l.listed y;
  sees : SeesFrom l.self.entries l.fn.place.0 l.number (IsSeen l.listed);
  size : length l.listed ≡ length l.fn.listed;
  last : IsLast l.self.entries l.fn.place.0 l.number l.number;
}

abbrev pub decreases-loop-number : goal.decreases-loop-number
decreases-loop-number l = l.number
