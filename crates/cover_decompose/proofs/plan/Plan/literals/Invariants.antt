use Rattle.cover_decompose.proofs.PlanSteps.{LiteralsLeft}
use Rattle.cover_decompose.proofs.plan.Plan.literals.Given as goal

abbrev pub invariant-loop-at : goal.invariant-loop-at
invariant-loop-at l = LiteralsLeft l.initial.self l.inputs l.row l.self l.nodes.items l.at
