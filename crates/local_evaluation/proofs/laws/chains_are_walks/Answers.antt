use Rattle.local_evaluation.proofs.Walks.{walk_ends, walk_found, walk_goes_on, walk_short, walk_starts}
use Rattle.local_evaluation.proofs.laws.chains_are_walks.Goals as goal

pub returns-clause-begin : goal.returns-clause-begin
returns-clause-begin c = walk_starts

pub returns-clause-goes_on : goal.returns-clause-goes_on
returns-clause-goes_on c = walk_goes_on

pub returns-clause-ends : goal.returns-clause-ends
returns-clause-ends c net gate node at count walk = (walk_found net gate node at count walk, walk_ends net gate node at count walk)

pub returns-clause-short : goal.returns-clause-short
returns-clause-short c = walk_short
