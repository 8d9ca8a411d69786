use Rattle.cover_sharing.proofs.Shared.{agrees, formed_again}
use Rattle.cover_sharing.proofs.laws.shared_models_agree.Goals as goal

pub returns-clause-formed : goal.returns-clause-formed
returns-clause-formed c = λ m formed ranked. formed_again m formed (c.windows_are_ordered.ensures.order m formed ranked)

pub returns-clause-agree : goal.returns-clause-agree
returns-clause-agree c = λ m formed ranked. agrees m formed ranked (c.windows_are_ordered.ensures.order m formed ranked)
