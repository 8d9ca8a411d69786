use Rattle.care_opt.proofs.Numbering.{extracts_keep_faults}
use Rattle.care_opt.proofs.laws.extracts_keep_faults.Goals as goal

pub returns : goal.returns
returns c = extracts_keep_faults
