use Rattle.std.proofs.Common.{Option, subst, ap, Err}
use Rattle.std.specs.Prelude.{IfSome, IsSome}
use Rattle.journal_check.proofs.Public.{handed_on}
use Rattle.rm_base.specs.Files.{Files}
use Rattle.journal_audit.specs.Audited.{IsProblem}
use Rattle.cover_decompose.specs.Count.{decomposed}
use Rattle.rambo_cli.specs.Check.{CheckFinds}
use Rattle.rambo_cli.specs.Contract.{Caused}
use Rattle.rambo_cli.specs.Problems.{KeepsFiles, audit_problem}
use Rattle.rambo_cli.specs.Inner.Problems.{outside_problem}
use Rattle.rambo_cli.proofs.Auditing.{audit_cause, read_in_check, too_many}
use Rattle.rambo_cli.proofs.PatternFiles.{store_cause, store_keeps, tests_begun, tests_done}
use Rattle.rambo_cli.proofs.Rising.{risen_after}
use Rattle.rambo_cli.proofs.testing.write_tests.Goals as goal

pub returns-clause-done : goal.returns-clause-done
returns-clause-done g c =
    tests_done c.passed_audits_tell.ensures c.in_ok-model.model c.args.names.now.input.now c.args.names.now.journal.now c.args.names.now.output.now c.args.names.now.patterns.now c.in_ok-audited.audited c.in_ok-written.written
    c.in_ok-model.ensures.usable c.in_ok-fits.ensures.few c.in_ok-written.ensures c.as_slice.result.now c.as_slice.ensures.value (g.S.Shelf.files c.args.shelf.now) (g.S.Shelf.files c.read_input.new.shelf)
    (g.S.Shelf.files c.audit_verdicts.new.shelf) (g.S.Shelf.files c.replace.new.shelf) c.in_ok-model.ensures.files c.in_ok-audited.ensures.files c.in_ok-model.ensures.said c.in_ok-audited.ensures.passed c.in_ok-replace.ensures.done

pub returns-clause-safe : goal.returns-clause-safe
returns-clause-safe g c =
    tests_begun c.passed_audits_tell.ensures c.in_ok-model.model c.args.names.now.input.now c.args.names.now.journal.now c.args.names.now.output.now c.args.names.now.patterns.now c.in_ok-audited.audited c.in_ok-written.written
    c.in_ok-model.ensures.usable c.in_ok-fits.ensures.few c.in_ok-written.ensures c.as_slice.result.now c.as_slice.ensures.value (g.S.Shelf.files c.args.shelf.now) (g.S.Shelf.files c.read_input.new.shelf)
    (g.S.Shelf.files c.audit_verdicts.new.shelf) (g.S.Shelf.files c.replace.new.shelf) c.in_ok-model.ensures.files c.in_ok-audited.ensures.files c.in_ok-model.ensures.said c.in_ok-audited.ensures.passed c.in_ok-replace.ensures.begun

pub returns-in_err-replace-clause-safe : goal.returns-in_err-replace-clause-safe
returns-in_err-replace-clause-safe g c =
    tests_begun c.passed_audits_tell.ensures c.in_ok-model.model c.args.names.now.input.now c.args.names.now.journal.now c.args.names.now.output.now c.args.names.now.patterns.now c.in_ok-audited.audited c.in_ok-written.written
    c.in_ok-model.ensures.usable c.in_ok-fits.ensures.few c.in_ok-written.ensures c.as_slice.result.now c.as_slice.ensures.value (g.S.Shelf.files c.args.shelf.now) (g.S.Shelf.files c.read_input.new.shelf)
    (g.S.Shelf.files c.audit_verdicts.new.shelf) (g.S.Shelf.files c.replace.new.shelf) c.in_ok-model.ensures.files c.in_ok-audited.ensures.files c.in_ok-model.ensures.said c.in_ok-audited.ensures.passed c.in_err-replace.ensures.begun

pub returns-in_err-audited-clause-cause : goal.returns-in_err-audited-clause-cause
returns-in_err-audited-clause-cause g c =
    let found = c.in_err-audited.field-0.0 in
    handed_on c.from_residual-in_err-audited.result (audit_problem found)
    (Caused (CheckFinds c.args.names.now.input.now c.args.names.now.journal.now c.args.names.now.output.now (g.S.Shelf.files c.args.shelf.now)) (g.S.Shelf.faults c.args.shelf.now) (g.S.Shelf.faults c.audit_verdicts.new.shelf)) c.from_residual-in_err-audited.ensures.1
    (audit_cause found c.in_ok-model.model c.args.names.now.input.now c.args.names.now.journal.now c.args.names.now.output.now (g.S.Shelf.files c.args.shelf.now) (g.S.Shelf.faults c.args.shelf.now) (g.S.Shelf.faults c.audit_verdicts.new.shelf)
    c.in_ok-model.ensures.said c.in_ok-fits.ensures.few
    (subst (λ (o : Option Files). IfSome o (λ told. IsProblem c.in_ok-model.model told c.args.names.now.journal.now c.args.names.now.output.now found)) c.in_ok-model.ensures.files c.in_err-audited.ensures.problem)
    (λ e. subst (λ (o : Option Files). IsSome o) c.in_ok-model.ensures.files (c.in_err-audited.ensures.no_journal (ap Err e)))
    (λ e. subst (λ (o : Option Files). IsSome o) c.in_ok-model.ensures.files (c.in_err-audited.ensures.no_output (ap Err e)))
    (λ e. risen_after (g.S.Shelf.faults c.args.shelf.now) (g.S.Shelf.faults c.read_input.new.shelf) (g.S.Shelf.faults c.audit_verdicts.new.shelf) c.in_ok-model.ensures.later (c.in_err-audited.ensures.fault (ap Err e))))

pub returns-in_err-fits-clause-cause : goal.returns-in_err-fits-clause-cause
returns-in_err-fits-clause-cause g c =
    let problem = c.in_err-fits.field-0.0 in
    handed_on c.from_residual-in_err-fits.result problem
    (Caused (CheckFinds c.args.names.now.input.now c.args.names.now.journal.now c.args.names.now.output.now (g.S.Shelf.files c.args.shelf.now)) (g.S.Shelf.faults c.args.shelf.now) (g.S.Shelf.faults c.read_input.new.shelf)) c.from_residual-in_err-fits.ensures.1
    (read_in_check c.args.names.now.input.now c.args.names.now.journal.now c.args.names.now.output.now (g.S.Shelf.files c.args.shelf.now) (g.S.Shelf.faults c.args.shelf.now) (g.S.Shelf.faults c.read_input.new.shelf) problem
    (too_many decomposed c.in_ok-model.model c.args.names.now.input.now (g.S.Shelf.files c.args.shelf.now) (g.S.Shelf.faults c.args.shelf.now) (g.S.Shelf.faults c.read_input.new.shelf) problem c.in_ok-model.ensures.said c.in_err-fits.ensures.cause))

pub returns-in_err-model-clause-cause : goal.returns-in_err-model-clause-cause
returns-in_err-model-clause-cause g c =
    let problem = c.in_err-model.field-0.0 in
    handed_on c.from_residual.result problem
    (Caused (CheckFinds c.args.names.now.input.now c.args.names.now.journal.now c.args.names.now.output.now (g.S.Shelf.files c.args.shelf.now)) (g.S.Shelf.faults c.args.shelf.now) (g.S.Shelf.faults c.read_input.new.shelf)) c.from_residual.ensures.1
    (read_in_check c.args.names.now.input.now c.args.names.now.journal.now c.args.names.now.output.now (g.S.Shelf.files c.args.shelf.now) (g.S.Shelf.faults c.args.shelf.now) (g.S.Shelf.faults c.read_input.new.shelf) problem c.in_err-model.ensures.cause)

pub returns-in_err-replace-clause-cause : goal.returns-in_err-replace-clause-cause
returns-in_err-replace-clause-cause g c =
    let found = c.in_err-replace.field-0.0 in
    handed_on c.from_residual-in_err-replace.result (outside_problem found)
    (Caused (CheckFinds c.args.names.now.input.now c.args.names.now.journal.now c.args.names.now.output.now (g.S.Shelf.files c.args.shelf.now)) (g.S.Shelf.faults c.args.shelf.now) (g.S.Shelf.faults c.replace.new.shelf))
    c.from_residual-in_err-replace.ensures.1
    (store_cause (CheckFinds c.args.names.now.input.now c.args.names.now.journal.now c.args.names.now.output.now (g.S.Shelf.files c.args.shelf.now)) found (g.S.Shelf.faults c.args.shelf.now) (g.S.Shelf.faults c.read_input.new.shelf)
    (g.S.Shelf.faults c.audit_verdicts.new.shelf) (g.S.Shelf.faults c.replace.new.shelf) c.in_ok-model.ensures.later c.in_ok-audited.ensures.later c.in_err-replace.ensures.cause)

pub returns-in_err-replace-clause-unchanged : goal.returns-in_err-replace-clause-unchanged
returns-in_err-replace-clause-unchanged g c =
    let found = c.in_err-replace.field-0.0 in
    handed_on c.from_residual-in_err-replace.result (outside_problem found) (λ problem. KeepsFiles problem (g.S.Shelf.files c.args.shelf.now) (g.S.Shelf.files c.replace.new.shelf)) c.from_residual-in_err-replace.ensures.1
    (store_keeps found (g.S.Shelf.files c.args.shelf.now) (g.S.Shelf.files c.replace.new.shelf))
