use Rattle.std.proofs.Common.{length, take, ◌≡◌, ◌≤◌}
use Rattle.refutation_check.specs.Inner.Notes.{IsTrail}
use Rattle.refutation_check.proofs.trail.take_back.Given as goal

abbrev pub invariant-loop-entries : goal.invariant-loop-entries
invariant-loop-entries l = record {
  trail : IsTrail l.facts l.entries.items;
  size : length l.facts ≡ length l.initial.facts;
  mark : l.mark ≤ length l.entries.items;
  same : take l.mark l.entries.items ≡ take l.mark l.initial.entries.items;
}

abbrev pub decreases-loop-entries : goal.decreases-loop-entries
decreases-loop-entries l = length l.entries.items
