use Rattle.cover_decompose.proofs.PlanSteps.{TermsLeft}
use Rattle.cover_decompose.proofs.plan.Plan.terms.Given as goal

abbrev pub invariant-loop-row : goal.invariant-loop-row
invariant-loop-row l = TermsLeft l.initial.self l.inputs l.rows l.self l.nodes.items l.row-index
