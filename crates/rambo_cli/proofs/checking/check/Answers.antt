use Rattle.std.proofs.Common.{Option, subst, ap, Err}
use Rattle.std.specs.Prelude.{IfSome, IsSome}
use Rattle.journal_check.proofs.Public.{handed_on}
use Rattle.rm_base.specs.Files.{Files}
use Rattle.journal_audit.specs.Audited.{IsPassed, IsProblem}
use Rattle.cover_decompose.specs.Count.{decomposed}
use Rattle.rambo_cli.specs.Check.{CheckFinds}
use Rattle.rambo_cli.specs.Contract.{Caused}
use Rattle.rambo_cli.specs.Problems.{audit_problem}
use Rattle.rambo_cli.proofs.Auditing.{audit_cause, audit_passed, read_in_check, too_many}
use Rattle.rambo_cli.proofs.Rising.{risen_after}
use Rattle.rambo_cli.proofs.checking.check.Goals as goal

pub returns-in_err-count-clause-cause : goal.returns-in_err-count-clause-cause
returns-in_err-count-clause-cause g c =
    let found = c.in_err-count.field-0.0 in
    handed_on c.from_residual-in_err-count.result (audit_problem found) (Caused (CheckFinds c.args.input.now c.args.journal.now c.args.output.now (g.S.Shelf.files c.args.shelf.now)) (g.S.Shelf.faults c.args.shelf.now) (g.S.Shelf.faults c.audit.new.shelf)) c.from_residual-in_err-count.ensures.1
    (audit_cause found c.in_ok-model.model c.args.input.now c.args.journal.now c.args.output.now (g.S.Shelf.files c.args.shelf.now) (g.S.Shelf.faults c.args.shelf.now) (g.S.Shelf.faults c.audit.new.shelf)
    c.in_ok-model.ensures.said c.in_ok-fits.ensures.few
    (subst (λ (o : Option Files). IfSome o (λ told. IsProblem c.in_ok-model.model told c.args.journal.now c.args.output.now found)) c.in_ok-model.ensures.files c.in_err-count.ensures.problem)
    (λ e. subst (λ (o : Option Files). IsSome o) c.in_ok-model.ensures.files (c.in_err-count.ensures.no_journal (ap Err e)))
    (λ e. subst (λ (o : Option Files). IsSome o) c.in_ok-model.ensures.files (c.in_err-count.ensures.no_output (ap Err e)))
    (λ e. risen_after (g.S.Shelf.faults c.args.shelf.now) (g.S.Shelf.faults c.read_input.new.shelf) (g.S.Shelf.faults c.audit.new.shelf) c.in_ok-model.ensures.later (c.in_err-count.ensures.fault (ap Err e))))

pub returns-clause-passed : goal.returns-clause-passed
returns-clause-passed g c =
    audit_passed c.passed_audits_tell.ensures c.in_ok-model.model c.args.input.now c.args.journal.now c.args.output.now c.in_ok-count.count (g.S.Shelf.files c.args.shelf.now) c.in_ok-model.ensures.usable c.in_ok-model.ensures.said c.in_ok-fits.ensures.few
    (subst (λ (o : Option Files). IfSome o (λ told. IsPassed c.in_ok-model.model told c.args.journal.now c.args.output.now c.in_ok-count.count)) c.in_ok-model.ensures.files c.in_ok-count.ensures.passed)

pub returns-in_err-fits-clause-cause : goal.returns-in_err-fits-clause-cause
returns-in_err-fits-clause-cause g c =
    let problem = c.in_err-fits.field-0.0 in
    handed_on c.from_residual-in_err-fits.result problem (Caused (CheckFinds c.args.input.now c.args.journal.now c.args.output.now (g.S.Shelf.files c.args.shelf.now)) (g.S.Shelf.faults c.args.shelf.now) (g.S.Shelf.faults c.read_input.new.shelf)) c.from_residual-in_err-fits.ensures.1
    (read_in_check c.args.input.now c.args.journal.now c.args.output.now (g.S.Shelf.files c.args.shelf.now) (g.S.Shelf.faults c.args.shelf.now) (g.S.Shelf.faults c.read_input.new.shelf) problem
    (too_many decomposed c.in_ok-model.model c.args.input.now (g.S.Shelf.files c.args.shelf.now) (g.S.Shelf.faults c.args.shelf.now) (g.S.Shelf.faults c.read_input.new.shelf) problem c.in_ok-model.ensures.said c.in_err-fits.ensures.cause))

pub returns-in_err-model-clause-cause : goal.returns-in_err-model-clause-cause
returns-in_err-model-clause-cause g c =
    let problem = c.in_err-model.field-0.0 in
    handed_on c.from_residual.result problem (Caused (CheckFinds c.args.input.now c.args.journal.now c.args.output.now (g.S.Shelf.files c.args.shelf.now)) (g.S.Shelf.faults c.args.shelf.now) (g.S.Shelf.faults c.read_input.new.shelf)) c.from_residual.ensures.1
    (read_in_check c.args.input.now c.args.journal.now c.args.output.now (g.S.Shelf.files c.args.shelf.now) (g.S.Shelf.faults c.args.shelf.now) (g.S.Shelf.faults c.read_input.new.shelf) problem c.in_err-model.ensures.cause)
