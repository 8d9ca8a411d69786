use Rattle.journal_text.proofs.Joined.{counts_more, one_fits, parts_at, room_at}
use Rattle.journal_text.proofs.recording.count_records.Goals as goal

pub count_record-requires-clause-adds : goal.count_record-requires-clause-adds
count_record-requires-clause-adds c =
    one_fits _ _ _ _ _ (room_at c.args.records.now c.loop-record.record-index c.args.made.now c.loop-record.made c.loop-record.invariant).adds c.loop-record-test.true c.requires.adds

pub count_record-requires-clause-fixes : goal.count_record-requires-clause-fixes
count_record-requires-clause-fixes c =
    one_fits _ _ _ _ _ (room_at c.args.records.now c.loop-record.record-index c.args.made.now c.loop-record.made c.loop-record.invariant).fixes c.loop-record-test.true c.requires.fixes

pub count_record-requires-clause-local : goal.count_record-requires-clause-local
count_record-requires-clause-local c =
    one_fits _ _ _ _ _ (room_at c.args.records.now c.loop-record.record-index c.args.made.now c.loop-record.made c.loop-record.invariant).local c.loop-record-test.true c.requires.local

pub loop-record-preserved : goal.loop-record-preserved
loop-record-preserved c =
    counts_more c.args.records.now c.loop-record.record-index c.record-item.result c.args.made.now c.loop-record.made c.count_record.new.made (parts_at c.args.records.now c.loop-record.record-index c.record-item.result c.loop-record-test.true c.record-item.is) c.loop-record.invariant c.count_record.ensures
