use Rattle.std.proofs.Common.{Ok, Err, subst, sym}
use Rattle.journal_audit.specs.Inner.Stages.{JudgedOn, JudgedSome}
use Rattle.journal_audit.specs.declared.stage.Stage.{Stage}
use Rattle.journal_audit.proofs.Entering.{gathered_err, gathered_on}
use Rattle.journal_audit.proofs.judge.judge_gathered.Goals as goal

pub judge_all-requires-clause-judged : goal.judge_all-requires-clause-judged
judge_all-requires-clause-judged c = subst (λ (s : Stage). JudgedSome c.args.model.now s c.args.entries.now) (sym c.expect_hits-stage.ensures) c.requires.judged

pub returns-in-Ok : goal.returns-in-Ok
returns-in-Ok c =
    gathered_on c.cuts_agree.ensures c.places_tell.ensures c.args.model.now c.args.stage c.in-Ok.stage c.args.entries.now c.args.fault c.unless_broken.result
    (subst (λ (s : Stage). JudgedOn c.args.model.now s c.args.entries.now (Ok c.in-Ok.stage)) c.expect_hits-stage.ensures c.in-Ok.ensures) c.unless_broken.ensures

pub returns-in-Err : goal.returns-in-Err
returns-in-Err c =
    gathered_err c.args.model.now c.args.stage c.args.entries.now c.args.fault c.in-Err.problem
    (subst (λ (s : Stage). JudgedOn c.args.model.now s c.args.entries.now (Err c.in-Err.problem)) c.expect_hits-stage.ensures c.in-Err.ensures)
