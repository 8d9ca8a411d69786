use Rattle.std.proofs.Common.{length, ◌≡◌}
use Rattle.implications.proofs.Bases.{Putting}
use Rattle.implications.proofs.basis.put_back.Given as goal
use Rattle.refutation.specs.Worklists.{seen_count}
use Rattle.refutation.specs.FactSets.{held_by}

abbrev pub invariant-loop-node : goal.invariant-loop-node
invariant-loop-node l = record {
  putting : Putting l.initial.taken (held_by l.initial.facts) l.taken l.facts;
  size : length l.facts ≡ length l.initial.facts;
}

abbrev pub decreases-loop-node : goal.decreases-loop-node
decreases-loop-node l = seen_count l.taken
