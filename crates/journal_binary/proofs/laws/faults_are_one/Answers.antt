use Rattle.journal_binary.proofs.Ones.{faults_are_one}
use Rattle.journal_binary.proofs.laws.faults_are_one.Goals as goal

pub returns : goal.returns
returns c = faults_are_one
