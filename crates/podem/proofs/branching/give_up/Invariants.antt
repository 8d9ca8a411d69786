use Rattle.std.proofs.Common.{length}
use Rattle.gate_net.specs.Net.{Net}
use Rattle.podem.proofs.branching.give_up.Given as goal
use Rattle.podem.specs.Inner.Going.{SpendsAt, Start}
use Rattle.rm_base.specs.declared.numbers.Fault.{Fault}

abbrev pub invariant-loop-split : goal.invariant-loop-split
invariant-loop-split l = (net : Net) (fault : Fault) (root : Start) → SpendsAt net fault root l.initial.splits l.initial.tree → SpendsAt net fault root l.splits l.tree

abbrev pub decreases-loop-split : goal.decreases-loop-split
decreases-loop-split l = length l.splits
