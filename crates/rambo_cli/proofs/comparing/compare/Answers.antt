use Rattle.std.proofs.Common.{Err, ap}
use Rattle.journal_check.proofs.Public.{handed_on}
use Rattle.rambo_cli.specs.Contract.{Caused}
use Rattle.rambo_cli.specs.Equal.{EqualFinds}
use Rattle.rambo_cli.specs.Inner.Problems.{outside_problem}
use Rattle.rambo_cli.specs.Problems.{KeepsFiles}
use Rattle.rambo_cli.proofs.Compared.{compare_kept, compared_begun, compared_written, kept_for, outside_cause, outside_kept, pair_equal, unlike_cause}
use Rattle.rambo_cli.proofs.EqualJudged.{compared_well}
use Rattle.rambo_cli.proofs.comparing.compare.Goals as goal

pub returns-in_err-pair-clause-unchanged : goal.returns-in_err-pair-clause-unchanged
returns-in_err-pair-clause-unchanged g c =
    handed_on c.from_residual.result c.in_err-pair.field-0.0 (λ p. KeepsFiles p (g.S.Shelf.files c.args.shelf.now) (g.S.Shelf.files c.read_pair.new.shelf)) c.from_residual.ensures.1
    (kept_for c.in_err-pair.field-0.0 (g.S.Shelf.files c.args.shelf.now) (g.S.Shelf.files c.read_pair.new.shelf) c.in_err-pair.ensures.files)

pub returns-in_err-pair-clause-cause : goal.returns-in_err-pair-clause-cause
returns-in_err-pair-clause-cause g c =
    let problem = c.in_err-pair.field-0.0 in
    handed_on c.from_residual.result problem (Caused (EqualFinds c.args.names.now.first.now c.args.names.now.second.now (g.S.Shelf.files c.args.shelf.now)) (g.S.Shelf.faults c.args.shelf.now) (g.S.Shelf.faults c.read_pair.new.shelf)) c.from_residual.ensures.1
    (pair_equal c.args.names.now.first.now c.args.names.now.second.now (g.S.Shelf.files c.args.shelf.now) (g.S.Shelf.faults c.args.shelf.now) (g.S.Shelf.faults c.read_pair.new.shelf) problem c.in_err-pair.ensures.cause)

pub returns-in_err-evidence-clause-unchanged : goal.returns-in_err-evidence-clause-unchanged
returns-in_err-evidence-clause-unchanged g c =
    handed_on c.from_residual-in_err-evidence.result c.in_err-evidence.field-0.0 (λ p. KeepsFiles p (g.S.Shelf.files c.args.shelf.now) (g.S.Shelf.files c.read_pair.new.shelf)) c.from_residual-in_err-evidence.ensures.1
    (kept_for c.in_err-evidence.field-0.0 (g.S.Shelf.files c.args.shelf.now) (g.S.Shelf.files c.read_pair.new.shelf) c.in_ok-pair.ensures.files)

pub returns-in_err-evidence-clause-cause : goal.returns-in_err-evidence-clause-cause
returns-in_err-evidence-clause-cause g c =
    let problem = c.in_err-evidence.field-0.0 in
    handed_on c.from_residual-in_err-evidence.result problem (Caused (EqualFinds c.args.names.now.first.now c.args.names.now.second.now (g.S.Shelf.files c.args.shelf.now)) (g.S.Shelf.faults c.args.shelf.now) (g.S.Shelf.faults c.read_pair.new.shelf)) c.from_residual-in_err-evidence.ensures.1
    (unlike_cause c.in_ok-pair.pair.model c.in_ok-pair.pair.other c.args.names.now.first.now c.args.names.now.second.now (g.S.Shelf.files c.args.shelf.now) (g.S.Shelf.faults c.args.shelf.now) (g.S.Shelf.faults c.read_pair.new.shelf) problem c.in_ok-pair.ensures.read c.in_err-evidence.ensures.unlike)

pub returns-in_err-pair-clause-safe : goal.returns-in_err-pair-clause-safe
returns-in_err-pair-clause-safe g c = compare_kept c.args.names.now.first.now c.args.names.now.second.now c.args.names.now.proof.now c.args.settings.now (g.S.Shelf.files c.args.shelf.now) (g.S.Shelf.files c.read_pair.new.shelf) c.in_err-pair.ensures.files

pub returns-in_err-evidence-clause-safe : goal.returns-in_err-evidence-clause-safe
returns-in_err-evidence-clause-safe g c = compare_kept c.args.names.now.first.now c.args.names.now.second.now c.args.names.now.proof.now c.args.settings.now (g.S.Shelf.files c.args.shelf.now) (g.S.Shelf.files c.read_pair.new.shelf) c.in_ok-pair.ensures.files

pub returns-in_err-text-clause-safe : goal.returns-in_err-text-clause-safe
returns-in_err-text-clause-safe g c = compare_kept c.args.names.now.first.now c.args.names.now.second.now c.args.names.now.proof.now c.args.settings.now (g.S.Shelf.files c.args.shelf.now) (g.S.Shelf.files c.read_pair.new.shelf) c.in_ok-pair.ensures.files

pub returns-in_err-replace-clause-safe : goal.returns-in_err-replace-clause-safe
returns-in_err-replace-clause-safe g c =
    compared_begun c.in_ok-pair.pair.model c.in_ok-pair.pair.other c.args.names.now.first.now c.args.names.now.second.now c.args.names.now.proof.now c.args.settings.now c.in_ok-evidence.evidence c.in_ok-text.text.items c.as_slice.result.now (g.S.Shelf.files c.args.shelf.now) (g.S.Shelf.files c.read_pair.new.shelf)
    (g.S.Shelf.files c.replace.new.shelf) c.in_ok-pair.ensures.files c.in_ok-pair.ensures.read c.in_ok-evidence.ensures.comparable c.in_ok-evidence.ensures.evidence c.in_ok-evidence.ensures.written c.in_ok-evidence.ensures.decided c.in_ok-text.ensures c.as_slice.ensures.value c.in_err-replace.ensures.begun

pub returns-clause-safe : goal.returns-clause-safe
returns-clause-safe g c =
    compared_begun c.in_ok-pair.pair.model c.in_ok-pair.pair.other c.args.names.now.first.now c.args.names.now.second.now c.args.names.now.proof.now c.args.settings.now c.in_ok-evidence.evidence c.in_ok-text.text.items c.as_slice.result.now (g.S.Shelf.files c.args.shelf.now) (g.S.Shelf.files c.read_pair.new.shelf)
    (g.S.Shelf.files c.replace.new.shelf) c.in_ok-pair.ensures.files c.in_ok-pair.ensures.read c.in_ok-evidence.ensures.comparable c.in_ok-evidence.ensures.evidence c.in_ok-evidence.ensures.written c.in_ok-evidence.ensures.decided c.in_ok-text.ensures c.as_slice.ensures.value c.in_ok-replace.ensures.begun

pub returns-clause-done : goal.returns-clause-done
returns-clause-done g c = (
  c.in_ok-evidence.evidence,
  (
    c.verdict_of.ensures,
    compared_well c.args.names.now.first.now c.args.names.now.second.now c.args.names.now.proof.now (c.requires.apart.1, c.requires.apart.2) c.args.settings.now c.requires.settings.budget c.in_ok-evidence.evidence (g.S.Shelf.files c.args.shelf.now) (g.S.Shelf.files c.replace.new.shelf)
        (compared_written c.in_ok-pair.pair.model c.in_ok-pair.pair.other c.args.names.now.first.now c.args.names.now.second.now c.args.names.now.proof.now c.args.settings.now c.in_ok-evidence.evidence c.in_ok-text.text.items c.as_slice.result.now (g.S.Shelf.files c.args.shelf.now) (g.S.Shelf.files c.read_pair.new.shelf)
        (g.S.Shelf.files c.replace.new.shelf) c.in_ok-pair.ensures.files c.in_ok-pair.ensures.read c.in_ok-evidence.ensures.comparable c.in_ok-evidence.ensures.evidence c.in_ok-evidence.ensures.written c.in_ok-evidence.ensures.decided c.in_ok-text.ensures c.as_slice.ensures.value c.in_ok-replace.ensures.done),
  ),
)

pub returns-in_err-replace-clause-cause : goal.returns-in_err-replace-clause-cause
returns-in_err-replace-clause-cause g c =
    let fault = c.in_err-replace.field-0.0 in
    handed_on c.from_residual-in_err-replace.result (outside_problem fault) (Caused (EqualFinds c.args.names.now.first.now c.args.names.now.second.now (g.S.Shelf.files c.args.shelf.now)) (g.S.Shelf.faults c.args.shelf.now) (g.S.Shelf.faults c.replace.new.shelf)) c.from_residual-in_err-replace.ensures.1
    (outside_cause fault (EqualFinds c.args.names.now.first.now c.args.names.now.second.now (g.S.Shelf.files c.args.shelf.now)) (g.S.Shelf.faults c.args.shelf.now) (g.S.Shelf.faults c.read_pair.new.shelf) (g.S.Shelf.faults c.replace.new.shelf) c.in_ok-pair.ensures.later
    (λ e. c.in_err-replace.ensures.cause.failed (ap Err e)))

pub returns-in_err-replace-clause-unchanged : goal.returns-in_err-replace-clause-unchanged
returns-in_err-replace-clause-unchanged g c =
    let fault = c.in_err-replace.field-0.0 in
    handed_on c.from_residual-in_err-replace.result (outside_problem fault) (λ p. KeepsFiles p (g.S.Shelf.files c.args.shelf.now) (g.S.Shelf.files c.replace.new.shelf)) c.from_residual-in_err-replace.ensures.1
    (outside_kept fault (g.S.Shelf.files c.args.shelf.now) (g.S.Shelf.files c.replace.new.shelf))
