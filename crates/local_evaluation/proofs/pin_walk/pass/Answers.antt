use Rattle.std.proofs.Common.{ap, arith, drop, sym, ◌∙◌, ◌≡◌}
use Rattle.local_evaluation.proofs.PinWalks.{pass_none, pass_one}
use Rattle.local_evaluation.proofs.pin_walk.pass.Goals as goal

pub returns-in_default : goal.returns-in_default
returns-in_default c = c.in_default.ensures.steps.1 ∙ sym (pass_none _ c.loop-left.left c.in_default.ensures.steps.0) ∙ c.loop-left.invariant

pub loop-left-preserved : goal.loop-left-preserved
loop-left-preserved c = pass_one _ _ c.in-Some.field-0.0 c.loop-left.left c.in-Some.ensures.steps c.loop-left-test.true ∙ c.loop-left.invariant

pub returns : goal.returns
returns c =
    let none : 0 ≡ c.loop-left.left = omega (arith, c.loop-left-test.false) in
    ap (λ k. drop k c.loop-left.rest) none ∙ c.loop-left.invariant
