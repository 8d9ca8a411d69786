use Rattle.refutation.proofs.Partials.{readings_accept}
use Rattle.refutation.proofs.laws.readings_accept.Goals as goal

pub returns : goal.returns
returns c = readings_accept
