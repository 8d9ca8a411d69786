use Rattle.refutation.proofs.TrueFacts.{detected_have_open_sets, detected_never_clash}
use Rattle.refutation.proofs.detected.detected_faults_stay_open.Goals as goal

pub returns-clause-sets : goal.returns-clause-sets
returns-clause-sets c = detected_have_open_sets c.lines_hold.ensures

pub returns-clause-clash : goal.returns-clause-clash
returns-clause-clash c = detected_never_clash c.lines_hold.ensures c.closed_has_all.ensures
