use Rattle.std.proofs.Common.{[], map, take}
use Rattle.cover_decompose.specs.Built.{IsBuilt}
use Rattle.cover_decompose.specs.Inner.PlanView.{node_of_plan}
use Rattle.cover_decompose.proofs.build.add_nodes.Given as goal

abbrev pub invariant-loop-at : goal.invariant-loop-at
invariant-loop-at l = IsBuilt l.graph (take l.at (map (λ n. node_of_plan n) l.made)) []
