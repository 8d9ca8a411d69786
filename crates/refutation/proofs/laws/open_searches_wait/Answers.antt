use Rattle.refutation.proofs.Searches.{open_searches_wait}
use Rattle.refutation.proofs.laws.open_searches_wait.Goals as goal

pub returns : goal.returns
returns c = open_searches_wait
