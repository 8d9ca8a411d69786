use Rattle.std.proofs.Common.{rules, ◌≡◌, ◌≤◌, ◌+◌, ◌++◌, ◌^◌, [], IfErr, IfSome, Result, length, subst, sym, arith}
use Rattle.journal_audit.specs.Inner.Judging.{IsTextProblem}
use Rattle.journal_audit.specs.Inner.Turns.{EndsWith, IsInside, IsJournalProblem, TurnSays}
use Rattle.journal_audit.specs.declared.problem.AuditProblem.{AuditProblem}
use Rattle.journal_audit.specs.declared.reading.Turn.{Turn}
use Rattle.journal_audit.proofs.Turning.{end_problem, err_weaker, goes_on, inside, no_bytes, ok_weaker, push_judged, some_bytes, too_long, turn_ends, turn_problem}
use Rattle.journal_audit.proofs.reading.next_turn.Goals as goal
use Rattle.journal_check.proofs.Public.{handed_on}

pub returns-then-is_empty-clause-says : goal.returns-then-is_empty-clause-says
returns-then-is_empty-clause-says c = λ files journal most next.
    let some = next.some in
    let s = next.so_far in
    let gives = next.gives in
    let none : length c.args.piece.now ≡ 0 = search rules in
    ok_weaker c.last.result (EndsWith c.args.model.now s.text) (TurnSays files c.args.model.now journal c.args.from c.args.reader.now)
    (λ t e. turn_ends files c.args.model.now journal c.args.from most c.args.reader.now c.args.reader.now c.args.stage c.args.piece.now t some (no_bytes c.args.piece.now none) s gives e)
    (c.last.ensures.ends c.args.model.now s.text s.judged)

pub returns-then-is_empty-clause-problem : goal.returns-then-is_empty-clause-problem
returns-then-is_empty-clause-problem c = λ files journal most next.
    let some = next.some in
    let s = next.so_far in
    let gives = next.gives in
    let none : length c.args.piece.now ≡ 0 = search rules in
    err_weaker c.last.result (λ (p : AuditProblem). IsTextProblem c.args.model.now s.text p) (λ (p : AuditProblem). IfSome files (λ told. IsJournalProblem c.args.model.now told journal p))
    (λ p h. end_problem files c.args.model.now journal c.args.from most c.args.reader.now c.args.stage c.args.piece.now p some (no_bytes c.args.piece.now none) s gives h)
    (c.last.ensures.problem c.args.model.now s.text s.judged)

pub returns-then-is_empty-clause-inside : goal.returns-then-is_empty-clause-inside
returns-then-is_empty-clause-inside c =
    let read = c.requires.read in
    err_weaker c.last.result (λ (p : AuditProblem). IsTextProblem c.args.model.now read.0 p) IsInside (λ p h. inside c.args.model.now read.0 p h) (c.last.ensures.problem c.args.model.now read.0 read.1.1.0)

pub returns-then-from-eq-MOST_BYTES-clause-problem : goal.returns-then-from-eq-MOST_BYTES-clause-problem
returns-then-from-eq-MOST_BYTES-clause-problem c = λ files journal most next.
    let some = next.some in
    let s = next.so_far in
    let gives = next.gives in
    let more = some_bytes c.args.piece.now c.is_empty.result c.is_empty.ensures c.if-is_empty.false in
    let limit : c.args.from ≡ 2 ^ 62 = search rules in
    subst (λ (r : Result Turn AuditProblem). IfErr r (λ p. IfSome files (λ told. IsJournalProblem c.args.model.now told journal p))) (sym c.too_long.ensures)
    (too_long files c.args.model.now journal c.args.from most c.args.reader.now c.args.stage c.args.piece.now some more limit s gives)

pub judge_entries-requires-clause-judged : goal.judge_entries-requires-clause-judged
judge_entries-requires-clause-judged c =
    let read = c.requires.read in
    let within : c.args.from + length c.args.piece.now ≤ 2 ^ 62 = search rules in
    (read.0 ++ c.args.piece.now, push_judged c.cuts_agree.ensures c.args.model.now read.0 c.args.piece.now c.args.reader.now c.push.new.self c.args.stage (omega (arith, within, read.1.0)) c.in_default.ensures.ok read.1.1.0)

pub returns-in_err-stage-clause-problem : goal.returns-in_err-stage-clause-problem
returns-in_err-stage-clause-problem c = λ files journal most next.
    let some = next.some in
    let s = next.so_far in
    let gives = next.gives in
    let within : c.args.from + length c.args.piece.now ≤ 2 ^ 62 = search rules in
    handed_on c.from_residual.result c.in_err-stage.field-0.0 (λ (p : AuditProblem). IfSome files (λ told. IsJournalProblem c.args.model.now told journal p)) c.from_residual.ensures.1
    (turn_problem files c.args.model.now journal c.args.from most c.args.reader.now c.args.stage c.args.piece.now c.in_err-stage.field-0.0 some s gives
    (λ more. c.in_err-stage.ensures.problem (s.text ++ c.args.piece.now) more (push_judged c.cuts_agree.ensures c.args.model.now s.text c.args.piece.now c.args.reader.now c.push.new.self c.args.stage (omega (arith, within, s.size)) c.in_default.ensures.ok s.judged)))

pub returns-in_err-stage-clause-inside : goal.returns-in_err-stage-clause-inside
returns-in_err-stage-clause-inside c =
    let read = c.requires.read in
    let within : c.args.from + length c.args.piece.now ≤ 2 ^ 62 = search rules in
    handed_on c.from_residual.result c.in_err-stage.field-0.0 IsInside c.from_residual.ensures.1
    (inside c.args.model.now ((read.0 ++ c.args.piece.now) ++ []) c.in_err-stage.field-0.0
    (c.in_err-stage.ensures.problem (read.0 ++ c.args.piece.now) [] (push_judged c.cuts_agree.ensures c.args.model.now read.0 c.args.piece.now c.args.reader.now c.push.new.self c.args.stage (omega (arith, within, read.1.0)) c.in_default.ensures.ok read.1.1.0)))

pub returns-clause-says : goal.returns-clause-says
returns-clause-says c = λ files journal most next.
    let some = next.some in
    let s = next.so_far in
    let gives = next.gives in
    let within : c.args.from + length c.args.piece.now ≤ 2 ^ 62 = search rules in
    let more = some_bytes c.args.piece.now c.is_empty.result c.is_empty.ensures c.if-is_empty.false in
    let judged = c.in_ok-stage.ensures.judged (s.text ++ c.args.piece.now) (push_judged c.cuts_agree.ensures c.args.model.now s.text c.args.piece.now c.args.reader.now c.push.new.self c.args.stage (omega (arith, within, s.size)) c.in_default.ensures.ok s.judged) in
    goes_on files c.args.model.now journal c.args.from most c.args.reader.now c.judge_entries.new.reader c.args.stage c.in_ok-stage.stage c.args.piece.now some more s gives judged.0 judged.1
