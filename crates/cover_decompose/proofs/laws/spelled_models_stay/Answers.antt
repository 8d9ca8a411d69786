use Rattle.cover_decompose.specs.Spelled.{spelled}
use Rattle.cover_decompose.proofs.Spelled.{formed_spelled, none_left, ranked_spelled}
use Rattle.cover_decompose.proofs.laws.spelled_models_stay.Goals as goal

pub returns-clause-plain : goal.returns-clause-plain
returns-clause-plain c = none_left

pub returns-clause-formed : goal.returns-clause-formed
returns-clause-formed c = formed_spelled

pub returns-clause-ranked : goal.returns-clause-ranked
returns-clause-ranked c = λ m w r. (c.ranks_exist.ensures.ranked (spelled m) (formed_spelled m w).driven_once).0 (ranked_spelled m ((c.ranks_exist.ensures.ranked m w.driven_once).1 r))
