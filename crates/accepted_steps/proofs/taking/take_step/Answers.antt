use Rattle.accepted_steps.proofs.Leading.{refused_says, step_refused, step_taken}
use Rattle.accepted_steps.proofs.taking.take_step.Goals as goal

pub returns-in_ok-push-in-Ok : goal.returns-in_ok-push-in-Ok
returns-in_ok-push-in-Ok c = λ m budget records stands few.
    step_taken c.records_replay.ensures m budget records c.args.replay.now c.step.new.self c.args.steps.now.items c.push.new.self.items c.args.given.now c.args.step c.in-Ok.field-0 c.requires.step c.in_ok-push-in-Ok.ensures.items stands few c.in-Ok.ensures

pub returns-in-Err : goal.returns-in-Err
returns-in-Err c = λ m budget records stands few.
    refused_says c.refuse.result c.in-Err.refusal _ c.refuse.ensures
    (λ plain. step_refused m budget records c.args.replay.now c.step.new.self c.args.steps.now.items c.args.given.now c.in-Err.refusal stands plain c.in-Err.ensures)
