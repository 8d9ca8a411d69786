use Rattle.std.proofs.Common.{drop, ◌+◌, ◌≡◌, ◌≤◌}
use Rattle.refutation.specs.Stack.{splits_among, untrieds_among}
use Rattle.refutation_check.proofs.shape.count.Given as goal

abbrev pub invariant-loop-item : goal.invariant-loop-item
invariant-loop-item l = record {
  splits : l.splits + splits_among (drop l.item-index l.items) ≡ splits_among l.items;
  untried : l.untried + untrieds_among (drop l.item-index l.items) ≡ untrieds_among l.items;
  few_splits : l.splits ≤ l.item-index;
  few_untried : l.untried ≤ l.item-index;
}
