use Rattle.equal_evidence.proofs.Sweeps.{swept_means_same}
use Rattle.equal_evidence.proofs.laws.swept_models_agree.Goals as goal

pub returns : goal.returns
returns c = swept_means_same c.values_exist.ensures c.accepted_runs_keep.ensures c.miters_tell_models.ensures.same
