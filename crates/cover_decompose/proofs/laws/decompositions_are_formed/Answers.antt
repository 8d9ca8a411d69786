use Rattle.cover_decompose.proofs.WellFormed.{gates_after, reads_lower, well_formed}
use Rattle.cover_decompose.proofs.Counted.{each_is_live}
use Rattle.cover_decompose.proofs.laws.decompositions_are_formed.Goals as goal

pub returns-clause-formed : goal.returns-clause-formed
returns-clause-formed c = well_formed

pub returns-clause-gates : goal.returns-clause-gates
returns-clause-gates c = gates_after

pub returns-clause-no_gaps : goal.returns-clause-no_gaps
returns-clause-no_gaps c = each_is_live

pub returns-clause-order : goal.returns-clause-order
returns-clause-order c = reads_lower
