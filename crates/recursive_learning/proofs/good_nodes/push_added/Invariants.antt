use Rattle.std.proofs.Common.{Some, ℕ, ◌<◌, ◌≡◌}
use Rattle.std.specs.Prelude.{slice_get}
use Rattle.recursive_learning.proofs.good_nodes.push_added.Given as goal
use Rattle.recursive_learning.specs.Inner.Holding.{NamesGood, StillNames}
use Rattle.refutation.specs.declared.reasoning.Fact.{Fact}
use Rattle.rm_base.specs.declared.numbers.NodeId.{NodeId}

abbrev pub invariant-loop-entry : goal.invariant-loop-entry
invariant-loop-entry l = record {
  kept : StillNames l.initial.nodes.items l.nodes.items;
  done : (k : ℕ) (a : NodeId × Fact) → k < l.entry-index → slice_get l.added k ≡ Some a → NamesGood a l.nodes.items;
}
