use Rattle.std.proofs.Common.{length, take, ◌≡◌, ◌≤◌}
use Rattle.recursive_learning.specs.Inner.Resting.{IsIndex}
use Rattle.recursive_learning.proofs.resting.Rests.take_back.Given as goal

abbrev pub invariant-loop-self : goal.invariant-loop-self
invariant-loop-self l = record {
  index : IsIndex l.self-inside.entries.items l.self-inside.last.items;
  cut : l.self-inside.entries.items ≡ take (length l.self-inside.entries.items) l.fn.self.entries;
  long : l.count ≤ length l.self-inside.entries.items;
  within : length l.self-inside.entries.items ≤ length l.fn.self.entries;
  numbers : length l.self-inside.last.items ≡ l.fn.self.numbers;
}

abbrev pub decreases-loop-self : goal.decreases-loop-self
decreases-loop-self l = length l.self-inside.entries.items
