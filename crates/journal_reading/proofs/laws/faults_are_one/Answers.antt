use Rattle.journal_reading.proofs.Ones.{faults_are_one}
use Rattle.journal_reading.proofs.laws.faults_are_one.Goals as goal

pub returns : goal.returns
returns c = faults_are_one c.faults_are_one.ensures c.faults_are_one-2.ensures
