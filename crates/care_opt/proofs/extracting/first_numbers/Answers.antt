use Rattle.std.proofs.Common.{List, ap, arith, length, ◌+◌, ◌∙◌, ◌≡◌, ℕ}
use Rattle.std.proofs.lemmas.List.{length_push}
use Rattle.care_opt.proofs.Looking.{count_step}
use Rattle.care_opt.proofs.extracting.first_numbers.Goals as goal

pub loop-number-preserved : goal.loop-number-preserved
loop-number-preserved c = record {
  size = ap (λ (l : List ℕ). length l) c.in_ok-push.ensures.items ∙ (length_push c.loop-number.numbers.items c.loop-number.number ∙ (let same = c.loop-number.invariant.size in let done : length c.loop-number.numbers.items + 1 ≡ c.loop-number.number + 1 = omega (arith, same) in done));
  numbers = count_step c.loop-number.numbers.items c.push.new.self.items c.loop-number.number c.in_ok-push.ensures.items c.loop-number.invariant.size c.loop-number.invariant.numbers;
}
