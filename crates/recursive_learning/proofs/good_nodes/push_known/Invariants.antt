use Rattle.std.proofs.Common.{Bool, Some, ℕ, ◌<◌, ◌≡◌}
use Rattle.implications.specs.Bases.{IsListed}
use Rattle.recursive_learning.proofs.good_nodes.push_known.Given as goal
use Rattle.refutation.specs.FactSets.{held_by}
use Rattle.refutation.specs.Facts.{known_good}

abbrev pub invariant-loop-number : goal.invariant-loop-number
invariant-loop-number l = (y : ℕ) (b : Bool) → y < l.number → known_good (held_by l.facts) y ≡ Some b → IsListed l.nodes.items y
