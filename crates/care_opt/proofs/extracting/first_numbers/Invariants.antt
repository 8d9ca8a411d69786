use Rattle.std.proofs.Common.{length, ℕ, ◌<◌, ◌≡◌}
use Rattle.std.specs.Prelude.{Some, slice_get}
use Rattle.care_opt.proofs.extracting.first_numbers.Given as goal

abbrev pub invariant-loop-number : goal.invariant-loop-number
invariant-loop-number l = record {
  size : length l.numbers.items ≡ l.number;
  numbers : (x : ℕ) → x < l.number → slice_get l.numbers.items x ≡ Some x;
}
