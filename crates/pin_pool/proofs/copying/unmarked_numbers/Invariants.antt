use Rattle.std.proofs.Common.{◌≡◌, ◌≤◌, length, take, vec_capacity}
use Rattle.pin_pool.specs.Inner.Marks.{unmarked_from}
use Rattle.pin_pool.proofs.copying.unmarked_numbers.Given as goal

abbrev pub invariant-loop-at : goal.invariant-loop-at
invariant-loop-at l = record {
  numbers : l.numbers.items ≡ unmarked_from 0 (take l.at l.marks);
  room : length l.marks ≤ vec_capacity l.numbers;
}
