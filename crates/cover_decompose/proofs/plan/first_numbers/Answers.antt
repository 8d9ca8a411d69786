use Rattle.std.proofs.Common.{◌++◌, ◌+◌, ◌∷◌, [], List, ap, ℕ, ◌∙◌}
use Rattle.cover_decompose.proofs.PlanSteps.{counting_more}
use Rattle.cover_decompose.proofs.plan.first_numbers.Goals as goal

pub loop-source-preserved : goal.loop-source-preserved
loop-source-preserved c = c.in_ok-push.ensures.items ∙ (ap (λ (l : List ℕ). l ++ (2 + c.loop-source.source) ∷ []) c.loop-source.invariant ∙ counting_more 2 c.loop-source.source)
