use Rattle.std.proofs.Common.{Err, List, ap, arith, length, sym, subst, ◌≡◌}
use Rattle.gate_graph.specs.Circuit.{net_of}
use Rattle.journal_text.specs.declared.record.Record.{Record}
use Rattle.journal_ranges.specs.Ranges.{AreFit}
use Rattle.journal_text.specs.Runs.{AreWritable, HasAppended, HasAppendedPart, made_by, none_made, records_text, steps_of}
use Rattle.rar_loop.proofs.Looping.{err_of, if_err}
use Rattle.rar_loop.proofs.Streaming.{removed_few, stopped_none, stopped_first}
use Rattle.rar_loop.proofs.removing.remove_redundant.Goals as goal

pub returns-clause-removed : goal.returns-clause-removed
returns-clause-removed g c =
    let b = c.in_ok-swept.ensures.begun in
    let counts : c.count_records.new.made ≡ made_by none_made (steps_of c.in_ok-swept.records.items) = subst (λ (rs : List Record). c.count_records.new.made ≡ made_by none_made (steps_of rs)) c.deref-2.ensures.value c.count_records.ensures in
    record {
      records = c.in_ok-swept.records.items;
      accepted = b.accepted;
      removals = b.removals;
      swept = b.swept;
      fewer = b.fewer;
      written = subst (λ (rs : List Record). HasAppended (g.S.Shelf.files c.args.shelf.now) (g.S.Shelf.files c.append_records.new.shelf) c.args.journal.now (records_text rs)) c.deref.ensures.value c.in_ok-append_records.ensures.written;
      fit = subst AreFit c.deref-3.ensures.value c.records_fit.ensures;
      counted = counts;
      few = removed_few c.runs_join.ensures (net_of c.args.graph) (net_of c.in_ok-swept.swept) c.in_ok-swept.records.items c.count_records.new.made b.accepted counts b.few;
    }

pub append_records-requires-clause-writable : goal.append_records-requires-clause-writable
append_records-requires-clause-writable g c =
    subst AreWritable (sym c.deref.ensures.value) (c.accepted_runs_are_writable.ensures (net_of c.args.graph) (net_of c.in_ok-swept.swept) c.in_ok-swept.records.items c.in_ok-swept.ensures.begun.accepted)

pub count_records-requires-clause-adds : goal.count_records-requires-clause-adds
count_records-requires-clause-adds g c =
    omega (arith, c.in_ok-swept.ensures.begun.few, ap (λ (rs : List Record). length rs) c.deref-2.ensures.value)

pub count_records-requires-clause-fixes : goal.count_records-requires-clause-fixes
count_records-requires-clause-fixes g c =
    omega (arith, c.in_ok-swept.ensures.begun.few, ap (λ (rs : List Record). length rs) c.deref-2.ensures.value)

pub count_records-requires-clause-local : goal.count_records-requires-clause-local
count_records-requires-clause-local g c =
    omega (arith, c.in_ok-swept.ensures.begun.few, ap (λ (rs : List Record). length rs) c.deref-2.ensures.value)

pub returns-clause-within : goal.returns-clause-within
returns-clause-within g c = c.in_ok-swept.ensures.begun.within

pub returns-clause-tidy : goal.returns-clause-tidy
returns-clause-tidy g c = c.in_ok-swept.ensures.begun.tidy

pub returns-in_err-swept-clause-stopped : goal.returns-in_err-swept-clause-stopped
returns-in_err-swept-clause-stopped g c =
    if_err c.from_residual.result _ (λ e. stopped_none c.texts_append.ensures (net_of c.args.graph) (g.S.Shelf.files c.args.shelf.now) c.args.journal.now c.requires.there)

pub returns-in_err-append_records-clause-stopped : goal.returns-in_err-append_records-clause-stopped
returns-in_err-append_records-clause-stopped g c =
    if_err c.from_residual-in_err-append_records.result _ (λ e. stopped_first c.args.graph c.in_ok-swept.swept c.args.depth c.in_ok-swept.records.items (g.S.Shelf.files c.args.shelf.now) (g.S.Shelf.files c.append_records.new.shelf) c.args.journal.now c.in_ok-swept.ensures.begun
    (subst (λ (rs : List Record). HasAppendedPart (g.S.Shelf.files c.args.shelf.now) (g.S.Shelf.files c.append_records.new.shelf) c.args.journal.now (records_text rs)) c.deref.ensures.value c.in_err-append_records.ensures.stopped))

pub returns-in_err-append_records-clause-failed : goal.returns-in_err-append_records-clause-failed
returns-in_err-append_records-clause-failed g c = λ failed.
    c.in_err-append_records.ensures.failed (ap Err (err_of c.from_residual-in_err-append_records.result c.in_err-append_records.field-0.0 c.from_residual-in_err-append_records.ensures.1 failed))
