use Rattle.cover_decompose.specs.Spelled.{spelled}
use Rattle.cover_decompose.proofs.laws.plain_nets_are_formed.Goals as goal

pub returns-clause-formed : goal.returns-clause-formed
returns-clause-formed c = λ m. c.decompositions_are_formed.ensures.formed (spelled m)

pub returns-clause-gates : goal.returns-clause-gates
returns-clause-gates c = λ m. c.decompositions_are_formed.ensures.gates (spelled m)

pub returns-clause-no_gaps : goal.returns-clause-no_gaps
returns-clause-no_gaps c = λ m. c.decompositions_are_formed.ensures.no_gaps (spelled m)

pub returns-clause-order : goal.returns-clause-order
returns-clause-order c = λ m. c.decompositions_are_formed.ensures.order (spelled m)
