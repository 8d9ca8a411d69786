use Rattle.journal_check.proofs.Public.{handed_on}
use Rattle.journal_text.specs.Text.{journal_text}
use Rattle.rambo_cli.specs.Contract.{Caused}
use Rattle.rambo_cli.specs.Optcare.{OptcareFinds}
use Rattle.rambo_cli.specs.Problems.{KeepsFiles}
use Rattle.rambo_cli.proofs.CareFiles.{care_begun, care_kept, care_written, cut_cause, cut_kept, misfit_cause, pair_care}
use Rattle.rambo_cli.proofs.Compared.{kept_for}
use Rattle.rambo_cli.proofs.caring.optimise_cared.Goals as goal

pub write_cared-requires-clause-writable : goal.write_cared-requires-clause-writable
write_cared-requires-clause-writable g c = c.in_ok-cared.ensures.cared.writable

pub write_cared-requires-clause-budget : goal.write_cared-requires-clause-budget
write_cared-requires-clause-budget g c = c.requires.settings.budget

pub returns-in_err-pair-clause-cause : goal.returns-in_err-pair-clause-cause
returns-in_err-pair-clause-cause g c =
    let problem = c.in_err-pair.field-0.0 in
    handed_on c.from_residual.result problem (Caused (OptcareFinds c.args.names.now.input.now c.args.names.now.care.now (g.S.Shelf.files c.args.shelf.now)) (g.S.Shelf.faults c.args.shelf.now) (g.S.Shelf.faults c.read_pair.new.shelf)) c.from_residual.ensures.1
    (pair_care c.args.names.now.input.now c.args.names.now.care.now (g.S.Shelf.files c.args.shelf.now) (g.S.Shelf.faults c.args.shelf.now) (g.S.Shelf.faults c.read_pair.new.shelf) problem c.in_err-pair.ensures.cause)

pub returns-in_err-pair-clause-unchanged : goal.returns-in_err-pair-clause-unchanged
returns-in_err-pair-clause-unchanged g c =
    handed_on c.from_residual.result c.in_err-pair.field-0.0 (λ p. KeepsFiles p (g.S.Shelf.files c.args.shelf.now) (g.S.Shelf.files c.read_pair.new.shelf)) c.from_residual.ensures.1
    (kept_for c.in_err-pair.field-0.0 (g.S.Shelf.files c.args.shelf.now) (g.S.Shelf.files c.read_pair.new.shelf) c.in_err-pair.ensures.files)

pub returns-in_err-pair-clause-safe : goal.returns-in_err-pair-clause-safe
returns-in_err-pair-clause-safe g c = care_kept c.args.names.now.input.now c.args.names.now.care.now c.args.names.now.output.now c.args.names.now.tests.now c.args.settings.now (g.S.Shelf.files c.args.shelf.now) (g.S.Shelf.files c.read_pair.new.shelf) c.in_err-pair.ensures.files

pub returns-in_err-cared-clause-cause : goal.returns-in_err-cared-clause-cause
returns-in_err-cared-clause-cause g c =
    let problem = c.in_err-cared.field-0.0 in
    handed_on c.from_residual-in_err-cared.result problem (Caused (OptcareFinds c.args.names.now.input.now c.args.names.now.care.now (g.S.Shelf.files c.args.shelf.now)) (g.S.Shelf.faults c.args.shelf.now) (g.S.Shelf.faults c.read_pair.new.shelf)) c.from_residual-in_err-cared.ensures.1
    (misfit_cause c.in_ok-pair.pair.model c.in_ok-pair.pair.other c.args.names.now.input.now c.args.names.now.care.now (g.S.Shelf.files c.args.shelf.now) (g.S.Shelf.faults c.args.shelf.now) (g.S.Shelf.faults c.read_pair.new.shelf) problem c.in_ok-pair.ensures.read c.in_err-cared.ensures.misfit)

pub returns-in_err-cared-clause-unchanged : goal.returns-in_err-cared-clause-unchanged
returns-in_err-cared-clause-unchanged g c =
    handed_on c.from_residual-in_err-cared.result c.in_err-cared.field-0.0 (λ p. KeepsFiles p (g.S.Shelf.files c.args.shelf.now) (g.S.Shelf.files c.read_pair.new.shelf)) c.from_residual-in_err-cared.ensures.1
    (kept_for c.in_err-cared.field-0.0 (g.S.Shelf.files c.args.shelf.now) (g.S.Shelf.files c.read_pair.new.shelf) c.in_ok-pair.ensures.files)

pub returns-in_err-cared-clause-safe : goal.returns-in_err-cared-clause-safe
returns-in_err-cared-clause-safe g c = care_kept c.args.names.now.input.now c.args.names.now.care.now c.args.names.now.output.now c.args.names.now.tests.now c.args.settings.now (g.S.Shelf.files c.args.shelf.now) (g.S.Shelf.files c.read_pair.new.shelf) c.in_ok-pair.ensures.files

pub returns-in_err-write_cared-clause-cause : goal.returns-in_err-write_cared-clause-cause
returns-in_err-write_cared-clause-cause g c =
    let problem = c.in_err-write_cared.field-0.0 in
    handed_on c.from_residual-in_err-write_cared.result problem (Caused (OptcareFinds c.args.names.now.input.now c.args.names.now.care.now (g.S.Shelf.files c.args.shelf.now)) (g.S.Shelf.faults c.args.shelf.now) (g.S.Shelf.faults c.write_cared.new.shelf)) c.from_residual-in_err-write_cared.ensures.1
    (cut_cause (OptcareFinds c.args.names.now.input.now c.args.names.now.care.now (g.S.Shelf.files c.args.shelf.now)) (g.S.Shelf.faults c.args.shelf.now) (g.S.Shelf.faults c.read_pair.new.shelf) (g.S.Shelf.faults c.write_cared.new.shelf) problem c.in_ok-pair.ensures.later c.in_err-write_cared.ensures.cause)

pub returns-in_err-write_cared-clause-unchanged : goal.returns-in_err-write_cared-clause-unchanged
returns-in_err-write_cared-clause-unchanged g c =
    let problem = c.in_err-write_cared.field-0.0 in
    handed_on c.from_residual-in_err-write_cared.result problem (λ p. KeepsFiles p (g.S.Shelf.files c.args.shelf.now) (g.S.Shelf.files c.write_cared.new.shelf)) c.from_residual-in_err-write_cared.ensures.1
    (cut_kept (g.S.Shelf.faults c.read_pair.new.shelf) (g.S.Shelf.faults c.write_cared.new.shelf) problem (g.S.Shelf.files c.args.shelf.now) (g.S.Shelf.files c.write_cared.new.shelf) c.in_err-write_cared.ensures.cause)

pub returns-in_err-write_cared-clause-safe : goal.returns-in_err-write_cared-clause-safe
returns-in_err-write_cared-clause-safe g c =
    care_begun c.in_ok-pair.pair.model c.in_ok-pair.pair.other c.args.names.now.input.now c.args.names.now.care.now c.args.names.now.output.now c.args.names.now.tests.now c.args.settings.now c.in_ok-cared.cared.figures (journal_text c.args.settings.now.budget c.in_ok-cared.cared.records.items) c.in_ok-cared.cared.text.items c.in_ok-cared.ensures.cared.into (g.S.Shelf.files c.args.shelf.now) (g.S.Shelf.files c.read_pair.new.shelf) (g.S.Shelf.files c.write_cared.new.shelf) c.in_ok-pair.ensures.files c.in_ok-pair.ensures.read c.in_err-write_cared.ensures.begun

pub returns-clause-done : goal.returns-clause-done
returns-clause-done g c =
    care_written c.in_ok-pair.pair.model c.in_ok-pair.pair.other c.args.names.now.input.now c.args.names.now.care.now c.args.names.now.output.now c.args.names.now.tests.now c.args.settings.now c.in_ok-cared.cared.figures (journal_text c.args.settings.now.budget c.in_ok-cared.cared.records.items) c.in_ok-cared.cared.text.items c.in_ok-cared.ensures.cared.into (g.S.Shelf.files c.args.shelf.now) (g.S.Shelf.files c.read_pair.new.shelf) (g.S.Shelf.files c.write_cared.new.shelf) c.in_ok-pair.ensures.files c.in_ok-pair.ensures.read c.in_ok-write_cared.ensures.done

pub returns-clause-safe : goal.returns-clause-safe
returns-clause-safe g c =
    care_begun c.in_ok-pair.pair.model c.in_ok-pair.pair.other c.args.names.now.input.now c.args.names.now.care.now c.args.names.now.output.now c.args.names.now.tests.now c.args.settings.now c.in_ok-cared.cared.figures (journal_text c.args.settings.now.budget c.in_ok-cared.cared.records.items) c.in_ok-cared.cared.text.items c.in_ok-cared.ensures.cared.into (g.S.Shelf.files c.args.shelf.now) (g.S.Shelf.files c.read_pair.new.shelf) (g.S.Shelf.files c.write_cared.new.shelf) c.in_ok-pair.ensures.files c.in_ok-pair.ensures.read c.in_ok-write_cared.ensures.begun
