use Rattle.std.proofs.Common.{arith}
use Rattle.journal_text.proofs.Appending.{appended_none}
use Rattle.journal_text.proofs.Joined.{appended_more, parts_at, stopped_at, writable_at}
use Rattle.journal_text.proofs.recording.append_records.Goals as goal
use Rattle.rm_base.proofs.Public.{on_err}

pub loop-record-init : goal.loop-record-init
loop-record-init g c = (appended_none (g.S.Shelf.files c.args.shelf.now) c.args.journal.now c.requires.there, c.requires.there, omega arith)

pub append_record-requires-clause-writable : goal.append_record-requires-clause-writable
append_record-requires-clause-writable g c =
    writable_at c.args.records.now c.loop-record.record-index c.record-item.result (parts_at c.args.records.now c.loop-record.record-index c.record-item.result c.loop-record-test.true c.record-item.is) c.requires.writable

pub returns-in_err-append_record-clause-stopped : goal.returns-in_err-append_record-clause-stopped
returns-in_err-append_record-clause-stopped g c =
    on_err c.from_residual.result
    (stopped_at c.args.records.now c.loop-record.record-index c.record-item.result (g.S.Shelf.files c.args.shelf.now) (g.S.Shelf.files c.loop-record.shelf) (g.S.Shelf.files c.append_record.new.shelf) c.args.journal.now
    (parts_at c.args.records.now c.loop-record.record-index c.record-item.result c.loop-record-test.true c.record-item.is) c.loop-record.invariant.0 c.in_err-append_record.ensures.stopped)

pub loop-record-preserved : goal.loop-record-preserved
loop-record-preserved g c = (
  appended_more c.args.records.now c.loop-record.record-index c.record-item.result (g.S.Shelf.files c.args.shelf.now) (g.S.Shelf.files c.loop-record.shelf) (g.S.Shelf.files c.append_record.new.shelf) c.args.journal.now
      (parts_at c.args.records.now c.loop-record.record-index c.record-item.result c.loop-record-test.true c.record-item.is) c.loop-record.invariant.0 c.in_ok-append_record.ensures.written,
  c.in_ok-append_record.ensures.there,
  omega (arith, c.loop-record.invariant.2, c.in_ok-append_record.ensures.later),
)
