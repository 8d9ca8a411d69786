use Rattle.std.proofs.Common.{ℕ, ◌^◌, ◌<◌, inl, length, refl, subst}
use Rattle.journal_audit.proofs.Stepping.{refusal_is, step_refused, step_stage}
use Rattle.journal_audit.proofs.judge.stage_after_record.Goals as goal
use Rattle.journal_audit.specs.Inner.Stages.{StepRefused}

pub returns-in-Ok-push : goal.returns-in-Ok-push
returns-in-Ok-push c = λ m budget records replayed counted.
    let few : length records < 2 ^ 63 = subst (λ (n : ℕ). n < 2 ^ 63) counted.counts c.requires.few in
    step_stage c.records_replay.ensures m budget records c.args.replay c.step.new.self c.args.given.now c.in-Ok.field-0 c.push.new.self replayed few c.in-Ok.ensures (c.in-Ok-push.ensures records counted)

pub returns-in-Err : goal.returns-in-Err
returns-in-Err c = λ m budget records replayed counted.
    refusal_is c.refusal_problem.result c.in-Err.refusal (StepRefused m budget records c.args.given.now) c.refusal_problem.ensures
    (step_refused m budget records c.args.replay c.step.new.self c.args.given.now c.in-Err.refusal replayed c.in-Err.ensures)
