use Rattle.journal_ranges.proofs.Fitting.{are_entries}
use Rattle.journal_ranges.proofs.fitting_are_entries.Goals as goal

pub returns : goal.returns
returns c = are_entries
