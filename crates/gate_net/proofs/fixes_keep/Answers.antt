use Rattle.gate_net.proofs.Fixed.{fixes_keep, fixes_keep_acyclic}
use Rattle.gate_net.proofs.fixes_keep.Goals as goal

pub returns-clause-values : goal.returns-clause-values
returns-clause-values c = fixes_keep

pub returns-clause-acyclic : goal.returns-clause-acyclic
returns-clause-acyclic c = fixes_keep_acyclic
