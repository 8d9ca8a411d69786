use Rattle.std.proofs.Common.{arith, ap, ◌∙◌, ℕ, Vec, Global}
use Rattle.std.specs.Prelude.{vec_capacity}
use Rattle.pin_pool.proofs.Copied.{unmarked-next}
use Rattle.pin_pool.proofs.copying.unmarked_numbers.Goals as goal
use Rattle.pin_pool.proofs.copying.unmarked_numbers.Goals.{then-not-marks-at+in_ok-push, else-not-marks-at}

pub loop-at-init : goal.loop-at-init
loop-at-init c = record { numbers = c.in_ok-numbers.ensures.items; room = omega (arith, c.in_ok-numbers.ensures.exact) }

pub loop-at-preserved : goal.loop-at-preserved
loop-at-preserved c =
    let i = c.loop-at.invariant in
    let next = unmarked-next c.args.marks.now c.loop-at.at c.loop-at.numbers.items c.loop-at-test.true i.numbers in
    elim c.if-not-marks-at.branch [
      | then-not-marks-at+in_ok-push w ↦ record {
        numbers = ap (λ (v : Vec ℕ Global). v.items) w.numbers-is ∙ w.in_ok-push.ensures.items ∙ next.1 w.if-not-marks-at.true;
        room = omega (arith, i.room, w.in_ok-push.ensures.capacity, ap (λ (v : Vec ℕ Global). vec_capacity v) w.numbers-is);
      }
      | else-not-marks-at w ↦ record {
        numbers = ap (λ (v : Vec ℕ Global). v.items) w.numbers-is ∙ next.0 w.if-not-marks-at.false;
        room = omega (arith, i.room, ap (λ (v : Vec ℕ Global). vec_capacity v) w.numbers-is);
      }
    ]
