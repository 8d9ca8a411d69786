use Rattle.std.proofs.Common.{◌+◌, ◌≤◌, arith, drop, length}
use Rattle.std.proofs.lemmas.Result.{err_from_is_err_and}
use Rattle.journal_audit.proofs.Entering.{judged_all, judged_problem, next_may, next_valid, on_item, onward_more, some_item, some_more}
use Rattle.journal_audit.proofs.judge.judge_all.Goals as goal

pub stage_after_entry-requires-clause-valid : goal.stage_after_entry-requires-clause-valid
stage_after_entry-requires-clause-valid c =
    next_valid c.cuts_agree.ensures c.args.model.now c.loop-entry.stage (drop (c.loop-entry.entry-index + 1) c.args.entries.now) c.entry-item.result
    (some_item c.args.model.now c.loop-entry.stage c.loop-entry.entry-index c.args.entries.now c.entry-item.result c.loop-entry-test.true c.entry-item.is c.loop-entry.invariant.1)

pub stage_after_entry-requires-clause-stage : goal.stage_after_entry-requires-clause-stage
stage_after_entry-requires-clause-stage c =
    next_may c.cuts_agree.ensures c.places_tell.ensures c.args.model.now c.loop-entry.stage (drop (c.loop-entry.entry-index + 1) c.args.entries.now) c.entry-item.result
    (some_item c.args.model.now c.loop-entry.stage c.loop-entry.entry-index c.args.entries.now c.entry-item.result c.loop-entry-test.true c.entry-item.is c.loop-entry.invariant.1)

pub returns-in_err-stage : goal.returns-in_err-stage
returns-in_err-stage c =
    let p = err_from_is_err_and c.from_residual.result c.from_residual.ensures.1 in
    rw (p.1, p.2) (judged_problem c.cuts_agree.ensures c.places_tell.ensures c.args.model.now c.args.stage c.loop-entry.stage c.args.entries.now (drop (c.loop-entry.entry-index + 1) c.args.entries.now) c.entry-item.result c.in_err-stage.field-0.0
    (on_item c.args.model.now c.args.stage c.loop-entry.stage c.loop-entry.entry-index c.args.entries.now c.entry-item.result c.loop-entry-test.true c.entry-item.is c.loop-entry.invariant.0) c.in_err-stage.ensures)

pub loop-entry-preserved : goal.loop-entry-preserved
loop-entry-preserved c = (
  onward_more c.cuts_agree.ensures c.args.model.now c.args.stage c.loop-entry.stage c.in_ok-stage.stage c.args.entries.now (drop (c.loop-entry.entry-index + 1) c.args.entries.now) c.entry-item.result
      (on_item c.args.model.now c.args.stage c.loop-entry.stage c.loop-entry.entry-index c.args.entries.now c.entry-item.result c.loop-entry-test.true c.entry-item.is c.loop-entry.invariant.0) c.in_ok-stage.ensures,
  some_more c.cuts_agree.ensures c.args.model.now c.loop-entry.stage c.in_ok-stage.stage (drop (c.loop-entry.entry-index + 1) c.args.entries.now) c.entry-item.result
      (some_item c.args.model.now c.loop-entry.stage c.loop-entry.entry-index c.args.entries.now c.entry-item.result c.loop-entry-test.true c.entry-item.is c.loop-entry.invariant.1) c.in_ok-stage.ensures,
)

pub returns : goal.returns
returns c = judged_all c.args.model.now c.args.stage c.loop-entry.stage c.loop-entry.entry-index c.args.entries.now (omega (arith, c.loop-entry-test.false)) c.loop-entry.invariant.0
