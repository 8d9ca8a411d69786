use Rattle.journal_ranges.proofs.Fitting.{fits_more}
use Rattle.journal_ranges.proofs.records_fit.Goals as goal

pub loop-record-preserved : goal.loop-record-preserved
loop-record-preserved c = fits_more c.args.records.now c.loop-record.record-index c.record-item.result c.loop-record-test.true c.record-item.is c.loop-record.invariant c.record_fits.ensures
