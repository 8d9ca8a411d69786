use Rattle.std.proofs.Common.{◌≡◌, Some, slice_get, length, refl, arith}
use Rattle.std.proofs.lemmas.Option.{slice_get_read}
use Rattle.closing_pass.proofs.Verdicting.{fit_more, recorded_more, recorded_part}
use Rattle.closing_pass.proofs.recording.write_verdicts.Goals as goal
use Rattle.rm_base.proofs.Public.{on_err}

pub returns-in_err-write_one-clause-stopped : goal.returns-in_err-write_one-clause-stopped
returns-in_err-write_one-clause-stopped g c =
    let there : slice_get c.args.report.now.verdicts.items c.loop-entry.entry-index ≡ Some c.entry-item.result =
    slice_get_read c.args.report.now.verdicts.items (length c.args.report.now.verdicts.items) c.loop-entry.entry-index c.entry-item.result refl (rw c.deref-entry-items.ensures.value at c.loop-entry-test.true) (rw c.deref-entry-items.ensures.value at c.entry-item.is) in
    on_err c.from_residual.result (recorded_part c.texts_append.ensures c.runs_join.ensures c.args.report.now.verdicts.items c.loop-entry.entry-index c.entry-item.result (g.S.Shelf.files c.args.shelf.now) (g.S.Shelf.files c.loop-entry.shelf) (g.S.Shelf.files c.write_one.new.shelf) c.args.journal.now
    there c.loop-entry.invariant.written c.in_err-write_one.ensures.stopped)

pub loop-entry-preserved : goal.loop-entry-preserved
loop-entry-preserved g c =
    let there : slice_get c.args.report.now.verdicts.items c.loop-entry.entry-index ≡ Some c.entry-item.result =
    slice_get_read c.args.report.now.verdicts.items (length c.args.report.now.verdicts.items) c.loop-entry.entry-index c.entry-item.result refl (rw c.deref-entry-items.ensures.value at c.loop-entry-test.true) (rw c.deref-entry-items.ensures.value at c.entry-item.is) in
    record {
      written =
          recorded_more c.texts_append.ensures c.runs_join.ensures c.args.report.now.verdicts.items c.loop-entry.entry-index c.entry-item.result (g.S.Shelf.files c.args.shelf.now) (g.S.Shelf.files c.loop-entry.shelf) (g.S.Shelf.files c.write_one.new.shelf) c.args.journal.now
          there c.loop-entry.invariant.written c.in_ok-write_one.ensures.written;
      fit = fit_more c.args.report.now.verdicts.items c.loop-entry.entry-index c.entry-item.result there c.loop-entry.invariant.fit c.write_one.ensures.fit;
      there = c.in_ok-write_one.ensures.there;
      later = omega (arith, c.loop-entry.invariant.later, c.in_ok-write_one.ensures.later);
    }
