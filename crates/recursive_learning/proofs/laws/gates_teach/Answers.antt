use Rattle.recursive_learning.proofs.Learns.{clashes_are_learned, values_are_learned}
use Rattle.recursive_learning.proofs.laws.gates_teach.Goals as goal

pub returns-clause-clashes : goal.returns-clause-clashes
returns-clause-clashes c = clashes_are_learned

pub returns-clause-values : goal.returns-clause-values
returns-clause-values c = values_are_learned
