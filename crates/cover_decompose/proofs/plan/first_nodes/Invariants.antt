use Rattle.std.proofs.Common.{◌≡◌, ◌∷◌, ◌++◌, [], map, replicate}
use Rattle.cover_decompose.specs.Decomposition.{plain}
use Rattle.cover_decompose.specs.Inner.PlanView.{node_of_plan}
use Rattle.gate_net.specs.declared.Kind.TheVariants.{Source, Zero, One}
use Rattle.cover_decompose.proofs.plan.first_nodes.Given as goal

abbrev pub invariant-loop-source : goal.invariant-loop-source
invariant-loop-source l = map (λ n. node_of_plan n) l.nodes.items ≡ (plain Zero ∷ plain One ∷ []) ++ replicate l._source (plain Source)
