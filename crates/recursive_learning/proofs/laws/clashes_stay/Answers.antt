use Rattle.recursive_learning.proofs.Learns.{clashes_stay, opposites_clash}
use Rattle.recursive_learning.proofs.Refutes.{clash_at_deeper}
use Rattle.recursive_learning.proofs.laws.clashes_stay.Goals as goal

pub returns-clause-stay : goal.returns-clause-stay
returns-clause-stay c = clashes_stay

pub returns-clause-opposites : goal.returns-clause-opposites
returns-clause-opposites c = opposites_clash

pub returns-clause-deepen : goal.returns-clause-deepen
returns-clause-deepen c = clash_at_deeper
