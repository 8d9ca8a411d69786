use Rattle.std.proofs.Common.{◌≡◌, List, subst}
use Rattle.journal_ranges.specs.Ranges.{AreFit}
use Rattle.journal_text.specs.Runs.{HasAppended, HasAppendedPart, made_by, records_text, steps_of}
use Rattle.journal_text.specs.declared.record.Record.{Record}
use Rattle.rar_loop.specs.Inner.Exchanging.{IsPlaceTry}
use Rattle.rar_loop.proofs.Looping.{if_err}
use Rattle.rar_loop.proofs.Turning.{turn_more, turn_stopped_more}
use Rattle.rar_loop.proofs.perturbing.perturb_at.Goals as goal

pub returns-in_err-append_records-in-Some-clause-stopped : goal.returns-in_err-append_records-in-Some-clause-stopped
returns-in_err-append_records-in-Some-clause-stopped g c =
    let tried = subst (IsPlaceTry c.args.space.now.trial c.args.gate.0 c.args.position c.args.limits.now.settings.depth c.args.left.now c.exchange_at.new.left c.exchange_at.new.space.trial) c.in-Some.is c.in_ok-exchange_at.ensures.tried in
    if_err c.from_residual-in_err-append_records-in-Some.result _ (λ e before old p. turn_stopped_more c.texts_append.ensures c.runs_join.ensures before c.args.space.now.trial.graph c.exchange_at.new.space.trial.graph tried.0 c.args.limits.now.settings.depth c.args.limits.now.settings.tries c.args.left.now c.args.gate.0 c.args.position c.in-Some.records.items c.args.made.now old
    (g.S.Shelf.files c.args.shelf.now) (g.S.Shelf.files c.append_records.new.shelf) c.args.journal.now tried.1.1.1.0.0
    (subst (λ (rs : List Record). HasAppendedPart (g.S.Shelf.files c.args.shelf.now) (g.S.Shelf.files c.append_records.new.shelf) c.args.journal.now (records_text rs)) c.deref.ensures.value c.in_err-append_records-in-Some.ensures.stopped) p)

pub returns-in_ok-append_records-in-Some-clause-on : goal.returns-in_ok-append_records-in-Some-clause-on
returns-in_ok-append_records-in-Some-clause-on g c = λ before old p.
    let tried = subst (IsPlaceTry c.args.space.now.trial c.args.gate.0 c.args.position c.args.limits.now.settings.depth c.args.left.now c.exchange_at.new.left c.exchange_at.new.space.trial) c.in-Some.is c.in_ok-exchange_at.ensures.tried in
    turn_more c.texts_append.ensures c.runs_join.ensures before c.args.space.now.trial.graph c.exchange_at.new.space.trial.graph tried.0 c.args.limits.now.settings.depth c.args.limits.now.settings.tries c.args.left.now c.exchange_at.new.left c.args.gate.0 c.args.position c.in-Some.records.items c.args.made.now c.count_records.new.made old
    (g.S.Shelf.files c.args.shelf.now) (g.S.Shelf.files c.append_records.new.shelf) c.args.journal.now tried.1.1.1.0.0 tried.1.0 tried.1.1.0 tried.1.1.1.1
    (subst (λ (rs : List Record). HasAppended (g.S.Shelf.files c.args.shelf.now) (g.S.Shelf.files c.append_records.new.shelf) c.args.journal.now (records_text rs)) c.deref.ensures.value c.in_ok-append_records-in-Some.ensures.written)
    (subst AreFit c.deref-in-Some-2.ensures.value c.records_fit.ensures)
    (subst (λ (rs : List Record). c.count_records.new.made ≡ made_by c.args.made.now (steps_of rs)) c.deref-in-Some.ensures.value c.count_records.ensures) p
