use Rattle.journal_text.proofs.OneFault.{fault_one, judged}
use Rattle.journal_text.proofs.laws.faults_are_one.Goals as goal

pub returns : goal.returns
returns c = record { one = fault_one c.lines_read.ensures; some = judged c.lines_read.ensures }
