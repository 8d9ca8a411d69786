use Rattle.std.proofs.Common.{◌≡◌, length}
use Rattle.test_patterns.specs.Inner.Drafts.{AreEmpty}
use Rattle.test_patterns.proofs.assigning.none_each.Given as goal

abbrev pub invariant-loop-at : goal.invariant-loop-at
invariant-loop-at l = (length l.firsts.items ≡ l._at) × AreEmpty l.firsts.items
