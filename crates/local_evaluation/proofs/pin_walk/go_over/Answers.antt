use Rattle.std.proofs.Common.{arith, drop, suc, sym, ◌+◌, ◌∙◌, ◌≡◌}
use Rattle.local_evaluation.proofs.PinWalks.{left_first, left_later, left_none, left_rest}
use Rattle.local_evaluation.proofs.pin_walk.go_over.Goals as goal

pub returns-in_default-clause-driver : goal.returns-in_default-clause-driver
returns-in_default-clause-driver c ds e =
    sym (left_none ds c.args.position (sym (left_later ds _ _ c.args.from.now c.args.position c.requires.ahead e c.pass.ensures) ∙ c.in_default.ensures.steps.0))

pub returns-in_default-clause-rest : goal.returns-in_default-clause-rest
returns-in_default-clause-rest c ds e =
    c.in_default.ensures.steps.1 ∙ sym c.in_default.ensures.steps.0 ∙ left_later ds _ _ c.args.from.now c.args.position c.requires.ahead e c.pass.ensures

pub returns-clause-driver : goal.returns-clause-driver
returns-clause-driver c ds e =
    sym (left_first ds c.args.position c.in-Some.driver.0 _ (sym (left_later ds _ _ c.args.from.now c.args.position c.requires.ahead e c.pass.ensures) ∙ c.in-Some.ensures.steps))

pub returns-clause-rest : goal.returns-clause-rest
returns-clause-rest c ds e =
    let next : c.args.position + 1 ≡ suc c.args.position = omega arith in
    rw next (sym (left_rest ds c.args.position c.in-Some.driver.0 _ (sym (left_later ds _ _ c.args.from.now c.args.position c.requires.ahead e c.pass.ensures) ∙ c.in-Some.ensures.steps)))
