use Rattle.std.proofs.Common.{List, ap, arith, false, length, nat_lt, sym, subst, ◌≡◌}
use Rattle.gate_graph.specs.Circuit.{net_of}
use Rattle.journal_text.specs.declared.record.Record.{Record}
use Rattle.journal_ranges.specs.Ranges.{AreFit}
use Rattle.journal_text.specs.Runs.{AreWritable, HasAppended, HasAppendedPart, made_by, none_made, records_text, steps_of}
use Rattle.optimisation.proofs.StageLaws.{merged_few, no_records, stopped_at_once, up_to}
use Rattle.optimisation.proofs.stages.merge_gates.Goals as goal
use Rattle.rm_base.proofs.Public.{on_err}

pub returns-clause-merged : goal.returns-clause-merged
returns-clause-merged g c =
    let m = c.in_ok-after.ensures in
    let counts : c.count_records.new.made ≡ made_by none_made (steps_of c.in_ok-after.records.items) = subst (λ (rs : List Record). c.count_records.new.made ≡ made_by none_made (steps_of rs)) c.deref-2.ensures.value c.count_records.ensures in
    record {
      records = c.in_ok-after.records.items;
      accepted = m.accepted;
      fewer = m.fewer;
      written = subst (λ (rs : List Record). HasAppended (g.S.Shelf.files c.args.shelf.now) (g.S.Shelf.files c.append_records.new.shelf) c.args.journal.now (records_text rs)) c.deref.ensures.value c.in_ok-append_records.ensures.written;
      fit = subst AreFit c.deref-3.ensures.value c.records_fit.ensures;
      counted = counts;
      few = up_to 35184372088832 70368744177664 c.count_records.new.made (omega arith) (merged_few c.runs_join.ensures (net_of c.args.graph) (net_of c.in_ok-after.after) c.in_ok-after.records.items c.count_records.new.made m.accepted counts m.records);
      none = λ none. no_records c.in_ok-after.records.items (subst (λ (rs : List Record). nat_lt 0 (length rs) ≡ false) c.as_slice.ensures.value none);
    }

pub returns-clause-few : goal.returns-clause-few
returns-clause-few g c =
    let m = c.in_ok-after.ensures in
    let counts : c.count_records.new.made ≡ made_by none_made (steps_of c.in_ok-after.records.items) = subst (λ (rs : List Record). c.count_records.new.made ≡ made_by none_made (steps_of rs)) c.deref-2.ensures.value c.count_records.ensures in
    merged_few c.runs_join.ensures (net_of c.args.graph) (net_of c.in_ok-after.after) c.in_ok-after.records.items c.count_records.new.made m.accepted counts m.records

pub append_records-requires-clause-writable : goal.append_records-requires-clause-writable
append_records-requires-clause-writable g c =
    subst AreWritable (sym c.deref.ensures.value) (c.accepted_runs_are_writable.ensures (net_of c.args.graph) (net_of c.in_ok-after.after) c.in_ok-after.records.items c.in_ok-after.ensures.accepted)

pub count_records-requires-clause-adds : goal.count_records-requires-clause-adds
count_records-requires-clause-adds g c =
    omega (arith, c.in_ok-after.ensures.records, ap (λ (rs : List Record). length rs) c.deref-2.ensures.value)

pub count_records-requires-clause-fixes : goal.count_records-requires-clause-fixes
count_records-requires-clause-fixes g c =
    omega (arith, c.in_ok-after.ensures.records, ap (λ (rs : List Record). length rs) c.deref-2.ensures.value)

pub count_records-requires-clause-local : goal.count_records-requires-clause-local
count_records-requires-clause-local g c =
    omega (arith, c.in_ok-after.ensures.records, ap (λ (rs : List Record). length rs) c.deref-2.ensures.value)

pub returns-in_err-after-clause-stopped : goal.returns-in_err-after-clause-stopped
returns-in_err-after-clause-stopped g c =
    on_err c.from_residual.result (stopped_at_once c.texts_append.ensures (net_of c.args.graph) (g.S.Shelf.files c.args.shelf.now) c.args.journal.now c.requires.there)

pub returns-in_err-append_records-clause-stopped : goal.returns-in_err-append_records-clause-stopped
returns-in_err-append_records-clause-stopped g c =
    on_err c.from_residual-in_err-append_records.result (record {
      records = c.in_ok-after.records.items;
      after = net_of c.in_ok-after.after;
      accepted = c.in_ok-after.ensures.accepted;
      written = subst (λ (rs : List Record). HasAppendedPart (g.S.Shelf.files c.args.shelf.now) (g.S.Shelf.files c.append_records.new.shelf) c.args.journal.now (records_text rs)) c.deref.ensures.value c.in_err-append_records.ensures.stopped;
    })
