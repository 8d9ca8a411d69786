use Rattle.std.proofs.Common.{Err, refl, ap, arith}
use Rattle.gate_graph.specs.Circuit.{net_of}
use Rattle.journal_text.specs.Runs.{none_made}
use Rattle.rar_loop.proofs.Looping.{err_of, if_err}
use Rattle.rar_loop.proofs.Streaming.{stopped_first}
use Rattle.rar_loop.proofs.Turning.{turn_first}
use Rattle.rar_loop.proofs.perturbing.perturb_opened.Goals as goal

pub append_records-requires-clause-writable : goal.append_records-requires-clause-writable
append_records-requires-clause-writable g c =
    c.accepted_runs_are_writable.ensures (net_of c.requires.begun.0) (net_of c.args.space.now.trial.graph) c.args.records.now c.requires.begun.1.accepted

pub count_records-requires-clause-adds : goal.count_records-requires-clause-adds
count_records-requires-clause-adds g c = omega (arith, c.requires.begun.1.few)

pub count_records-requires-clause-fixes : goal.count_records-requires-clause-fixes
count_records-requires-clause-fixes g c = omega (arith, c.requires.begun.1.few)

pub count_records-requires-clause-local : goal.count_records-requires-clause-local
count_records-requires-clause-local g c = omega (arith, c.requires.begun.1.few)

pub perturb_swept-requires-clause-way : goal.perturb_swept-requires-clause-way
perturb_swept-requires-clause-way g c =
    (c.requires.begun.0, (g.S.Shelf.files c.args.shelf.now, turn_first c.requires.begun.0 c.args.space.now.trial.graph c.args.limits.now.settings.depth c.args.limits.now.settings.tries c.args.records.now none_made c.count_records.new.made (g.S.Shelf.files c.args.shelf.now) (g.S.Shelf.files c.append_records.new.shelf) c.args.journal.now c.requires.begun.1 c.in_ok-append_records.ensures.written c.records_fit.ensures refl c.count_records.ensures))

pub returns-clause-through : goal.returns-clause-through
returns-clause-through g c =
    let on = c.in_ok-used.ensures.on in
    λ before b. (on.0, on.1 before (g.S.Shelf.files c.args.shelf.now) (turn_first before c.args.space.now.trial.graph c.args.limits.now.settings.depth c.args.limits.now.settings.tries c.args.records.now none_made c.count_records.new.made (g.S.Shelf.files c.args.shelf.now) (g.S.Shelf.files c.append_records.new.shelf) c.args.journal.now b c.in_ok-append_records.ensures.written c.records_fit.ensures refl c.count_records.ensures))

pub returns-in_err-append_records-clause-stopped : goal.returns-in_err-append_records-clause-stopped
returns-in_err-append_records-clause-stopped g c =
    if_err c.from_residual.result _ (λ e before b. stopped_first before c.args.space.now.trial.graph c.args.limits.now.settings.depth c.args.records.now (g.S.Shelf.files c.args.shelf.now) (g.S.Shelf.files c.append_records.new.shelf) c.args.journal.now b c.in_err-append_records.ensures.stopped)

pub returns-in_err-used-clause-stopped : goal.returns-in_err-used-clause-stopped
returns-in_err-used-clause-stopped g c =
    if_err c.from_residual-in_err-used.result _ (λ e before b. c.in_err-used.ensures.stopped before (g.S.Shelf.files c.args.shelf.now) (turn_first before c.args.space.now.trial.graph c.args.limits.now.settings.depth c.args.limits.now.settings.tries c.args.records.now none_made c.count_records.new.made (g.S.Shelf.files c.args.shelf.now) (g.S.Shelf.files c.append_records.new.shelf) c.args.journal.now b c.in_ok-append_records.ensures.written c.records_fit.ensures refl c.count_records.ensures))

pub returns-in_err-append_records-clause-failed : goal.returns-in_err-append_records-clause-failed
returns-in_err-append_records-clause-failed g c = λ failed.
    c.in_err-append_records.ensures.failed (ap Err (err_of c.from_residual.result c.in_err-append_records.field-0.0 c.from_residual.ensures.1 failed))

pub returns-in_err-used-clause-failed : goal.returns-in_err-used-clause-failed
returns-in_err-used-clause-failed g c = λ failed.
    let rose = c.in_err-used.ensures.failed (ap Err (err_of c.from_residual-in_err-used.result c.in_err-used.field-0.0 c.from_residual-in_err-used.ensures.1 failed)) in
    omega (arith, rose, c.in_ok-append_records.ensures.later)
