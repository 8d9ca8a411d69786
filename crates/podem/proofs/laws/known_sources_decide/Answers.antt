use Rattle.podem.proofs.Waiting.{none_waits}
use Rattle.podem.proofs.laws.known_sources_decide.Goals as goal

pub returns : goal.returns
returns c net fault formed stuck known m current decided undetected = none_waits net fault formed stuck known m current decided undetected
