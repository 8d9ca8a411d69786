use Rattle.std.proofs.Common.{Err, [], ap, arith}
use Rattle.journal_check.proofs.Public.{handed_on}
use Rattle.journal_text.specs.Text.{journal_text}
use Rattle.optimisation.proofs.Public.{put_there}
use Rattle.rambo_cli.specs.Inner.Optcare.{IsCutShort}
use Rattle.rambo_cli.specs.Inner.Problems.{outside_problem, stop_problem}
use Rattle.rambo_cli.proofs.CareFiles.{header_begun, outside_cut, rest_begun, rest_done, rest_whole, stop_cut}
use Rattle.rambo_cli.proofs.Replacing.{created_begun}
use Rattle.rambo_cli.proofs.caring.write_records.Goals as goal

pub append_entry-requires-clause-there : goal.append_entry-requires-clause-there
append_entry-requires-clause-there g c = put_there c.args.name.now [] (g.S.Shelf.files c.args.shelf.now) (g.S.Shelf.files c.create.new.self) c.in_ok-create.ensures.files

pub returns-in_err-create-clause-begun : goal.returns-in_err-create-clause-begun
returns-in_err-create-clause-begun g c = created_begun {T = Unit {0}} (Err c.in_err-create.field-0.0) c.args.name.now (journal_text c.args.budget c.args.records.now) (g.S.Shelf.files c.args.shelf.now) (g.S.Shelf.files c.create.new.self) c.in_err-create.ensures.files

pub returns-in_err-append_entry-clause-begun : goal.returns-in_err-append_entry-clause-begun
returns-in_err-append_entry-clause-begun g c = header_begun c.texts_append.ensures c.args.name.now c.args.budget c.args.records.now (g.S.Shelf.files c.args.shelf.now) (g.S.Shelf.files c.create.new.self) c.in_ok-create.ensures.files (g.S.Shelf.files c.append_entry.new.shelf) c.in_err-append_entry.ensures.stopped

pub returns-in_err-add_records-clause-begun : goal.returns-in_err-add_records-clause-begun
returns-in_err-add_records-clause-begun g c = rest_begun c.texts_append.ensures c.args.name.now c.args.budget c.args.records.now (g.S.Shelf.files c.args.shelf.now) (g.S.Shelf.files c.create.new.self) c.in_ok-create.ensures.files (g.S.Shelf.files c.append_entry.new.shelf) (g.S.Shelf.files c.add_records.new.shelf) c.in_ok-append_entry.ensures.written c.in_err-add_records.ensures.stopped

pub returns-clause-done : goal.returns-clause-done
returns-clause-done g c = rest_done c.texts_append.ensures c.args.name.now c.args.budget c.args.records.now (g.S.Shelf.files c.args.shelf.now) (g.S.Shelf.files c.create.new.self) c.in_ok-create.ensures.files (g.S.Shelf.files c.append_entry.new.shelf) (g.S.Shelf.files c.add_records.new.shelf) c.in_ok-append_entry.ensures.written c.in_ok-add_records.ensures.written

pub returns-clause-begun : goal.returns-clause-begun
returns-clause-begun g c = rest_whole c.texts_append.ensures c.args.name.now c.args.budget c.args.records.now (g.S.Shelf.files c.args.shelf.now) (g.S.Shelf.files c.create.new.self) c.in_ok-create.ensures.files (g.S.Shelf.files c.append_entry.new.shelf) (g.S.Shelf.files c.add_records.new.shelf) c.in_ok-append_entry.ensures.written c.in_ok-add_records.ensures.written

pub returns-in_err-create-clause-cause : goal.returns-in_err-create-clause-cause
returns-in_err-create-clause-cause g c =
    let fault = c.in_err-create.field-0.0 in
    handed_on c.from_residual.result (outside_problem fault) (IsCutShort (g.S.Shelf.faults c.args.shelf.now) (g.S.Shelf.faults c.create.new.self)) c.from_residual.ensures.1
    (outside_cut fault (g.S.Shelf.faults c.args.shelf.now) (g.S.Shelf.faults c.args.shelf.now) (g.S.Shelf.faults c.create.new.self) (omega arith) (λ e. c.in_err-create.ensures.cause.failed (ap Err e)))

pub returns-in_err-append_entry-clause-cause : goal.returns-in_err-append_entry-clause-cause
returns-in_err-append_entry-clause-cause g c =
    let why = c.in_err-append_entry.field-0.0 in
    handed_on c.from_residual-in_err-append_entry.result (stop_problem why) (IsCutShort (g.S.Shelf.faults c.args.shelf.now) (g.S.Shelf.faults c.append_entry.new.shelf)) c.from_residual-in_err-append_entry.ensures.1
    (stop_cut why (g.S.Shelf.faults c.args.shelf.now) (g.S.Shelf.faults c.create.new.self) (g.S.Shelf.faults c.append_entry.new.shelf) c.in_ok-create.ensures.cause.later (λ e. c.in_err-append_entry.ensures.failed (ap Err e)))

pub returns-in_err-add_records-clause-cause : goal.returns-in_err-add_records-clause-cause
returns-in_err-add_records-clause-cause g c =
    let why = c.in_err-add_records.field-0.0 in
    let one = c.in_ok-create.ensures.cause.later in
    let two = c.in_ok-append_entry.ensures.later in
    handed_on c.from_residual-in_err-add_records.result (stop_problem why) (IsCutShort (g.S.Shelf.faults c.args.shelf.now) (g.S.Shelf.faults c.add_records.new.shelf)) c.from_residual-in_err-add_records.ensures.1
    (stop_cut why (g.S.Shelf.faults c.args.shelf.now) (g.S.Shelf.faults c.append_entry.new.shelf) (g.S.Shelf.faults c.add_records.new.shelf) (omega (arith, one, two)) (λ e. c.in_err-add_records.ensures.failed (ap Err e)))
