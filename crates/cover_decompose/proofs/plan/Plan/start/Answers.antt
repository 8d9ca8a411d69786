use Rattle.std.proofs.Common.{List, Option, ap, sym, length, ℕ, ◌∙◌}
use Rattle.cover_decompose.proofs.PlanSteps.{start-even}
use Rattle.cover_decompose.proofs.plan.Plan.start.Goals as goal

pub invariant_of-result : goal.invariant_of-result
invariant_of-result c =
    ap (λ (l : List (Option ℕ)). length l) c.in_ok-no_nots.ensures
    ∙ (start-even c.args.sources c.args.covers ∙ ap (λ (l : List ℕ). length l) (sym c.in_ok-first_numbers.ensures))
