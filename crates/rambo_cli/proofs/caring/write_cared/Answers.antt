use Rattle.std.proofs.Common.{Err, List, ap, subst, ℕ}
use Rattle.journal_check.proofs.Public.{handed_on}
use Rattle.journal_text.specs.Text.{journal_text}
use Rattle.journal_text.specs.declared.record.Record.{Record}
use Rattle.rambo_cli.specs.Files.{IfTold}
use Rattle.rambo_cli.specs.Inner.Files.{AreBothPut, BeginsBoth}
use Rattle.rambo_cli.specs.Inner.Optcare.{IsCutShort}
use Rattle.rambo_cli.specs.Inner.Problems.{outside_problem}
use Rattle.rambo_cli.proofs.CareFiles.{both_put, first_begun, outside_cut, second_begun}
use Rattle.rambo_cli.proofs.caring.write_cared.Goals as goal

pub returns-in_err-write_records-clause-begun : goal.returns-in_err-write_records-clause-begun
returns-in_err-write_records-clause-begun g c =
    subst (λ (rs : List Record). IfTold (g.S.Shelf.files c.args.shelf.now) (g.S.Shelf.files c.write_records.new.shelf) (BeginsBoth c.args.output.now c.args.tests.now (journal_text c.args.budget rs) c.args.cared.now.text.items)) c.as_slice.ensures.value
    (first_begun c.args.output.now c.args.tests.now (journal_text c.args.budget c.as_slice.result.now) c.args.cared.now.text.items (g.S.Shelf.files c.args.shelf.now) (g.S.Shelf.files c.write_records.new.shelf) c.in_err-write_records.ensures.begun)

pub returns-in_err-write_records-clause-cause : goal.returns-in_err-write_records-clause-cause
returns-in_err-write_records-clause-cause g c =
    handed_on c.from_residual.result c.in_err-write_records.field-0.0 (IsCutShort (g.S.Shelf.faults c.args.shelf.now) (g.S.Shelf.faults c.write_records.new.shelf)) c.from_residual.ensures.1 c.in_err-write_records.ensures.cause

pub returns-in_err-replace-clause-cause : goal.returns-in_err-replace-clause-cause
returns-in_err-replace-clause-cause g c =
    let fault = c.in_err-replace.field-0.0 in
    handed_on c.from_residual-in_err-replace.result (outside_problem fault) (IsCutShort (g.S.Shelf.faults c.args.shelf.now) (g.S.Shelf.faults c.replace.new.shelf)) c.from_residual-in_err-replace.ensures.1
    (outside_cut fault (g.S.Shelf.faults c.args.shelf.now) (g.S.Shelf.faults c.write_records.new.shelf) (g.S.Shelf.faults c.replace.new.shelf) c.in_ok-write_records.ensures.later (λ e. c.in_err-replace.ensures.cause.failed (ap Err e)))

pub returns-in_err-replace-clause-begun : goal.returns-in_err-replace-clause-begun
returns-in_err-replace-clause-begun g c =
    subst (λ (text : List ℕ). IfTold (g.S.Shelf.files c.args.shelf.now) (g.S.Shelf.files c.replace.new.shelf) (BeginsBoth c.args.output.now c.args.tests.now (journal_text c.args.budget c.args.cared.now.records.items) text)) c.as_slice-2.ensures.value
    (subst (λ (rs : List Record). IfTold (g.S.Shelf.files c.args.shelf.now) (g.S.Shelf.files c.replace.new.shelf) (BeginsBoth c.args.output.now c.args.tests.now (journal_text c.args.budget rs) c.as_slice-2.result.now)) c.as_slice.ensures.value
    (second_begun c.args.output.now c.args.tests.now (journal_text c.args.budget c.as_slice.result.now) c.as_slice-2.result.now (g.S.Shelf.files c.args.shelf.now) (g.S.Shelf.files c.write_records.new.shelf) (g.S.Shelf.files c.replace.new.shelf) c.in_ok-write_records.ensures.done c.in_err-replace.ensures.begun))

pub returns-clause-begun : goal.returns-clause-begun
returns-clause-begun g c =
    subst (λ (text : List ℕ). IfTold (g.S.Shelf.files c.args.shelf.now) (g.S.Shelf.files c.replace.new.shelf) (BeginsBoth c.args.output.now c.args.tests.now (journal_text c.args.budget c.args.cared.now.records.items) text)) c.as_slice-2.ensures.value
    (subst (λ (rs : List Record). IfTold (g.S.Shelf.files c.args.shelf.now) (g.S.Shelf.files c.replace.new.shelf) (BeginsBoth c.args.output.now c.args.tests.now (journal_text c.args.budget rs) c.as_slice-2.result.now)) c.as_slice.ensures.value
    (second_begun c.args.output.now c.args.tests.now (journal_text c.args.budget c.as_slice.result.now) c.as_slice-2.result.now (g.S.Shelf.files c.args.shelf.now) (g.S.Shelf.files c.write_records.new.shelf) (g.S.Shelf.files c.replace.new.shelf) c.in_ok-write_records.ensures.done c.in_ok-replace.ensures.begun))

pub returns-clause-done : goal.returns-clause-done
returns-clause-done g c =
    subst (λ (text : List ℕ). IfTold (g.S.Shelf.files c.args.shelf.now) (g.S.Shelf.files c.replace.new.shelf) (AreBothPut c.args.output.now c.args.tests.now (journal_text c.args.budget c.args.cared.now.records.items) text)) c.as_slice-2.ensures.value
    (subst (λ (rs : List Record). IfTold (g.S.Shelf.files c.args.shelf.now) (g.S.Shelf.files c.replace.new.shelf) (AreBothPut c.args.output.now c.args.tests.now (journal_text c.args.budget rs) c.as_slice-2.result.now)) c.as_slice.ensures.value
    (both_put c.args.output.now c.args.tests.now (journal_text c.args.budget c.as_slice.result.now) c.as_slice-2.result.now (g.S.Shelf.files c.args.shelf.now) (g.S.Shelf.files c.write_records.new.shelf) (g.S.Shelf.files c.replace.new.shelf) c.in_ok-write_records.ensures.done c.in_ok-replace.ensures.done))
