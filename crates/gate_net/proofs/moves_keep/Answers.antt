use Rattle.gate_net.proofs.Moved.{moves_keep, twice_keeps, moves_keep_acyclic}
use Rattle.gate_net.proofs.moves_keep.Goals as goal

pub returns-clause-moves : goal.returns-clause-moves
returns-clause-moves c = moves_keep

pub returns-clause-twice : goal.returns-clause-twice
returns-clause-twice c = twice_keeps

pub returns-clause-acyclic : goal.returns-clause-acyclic
returns-clause-acyclic c = moves_keep_acyclic
