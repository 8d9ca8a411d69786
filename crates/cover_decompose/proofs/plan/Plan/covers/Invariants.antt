use Rattle.std.proofs.Common.{map}
use Rattle.cover_decompose.proofs.PlanSteps.{CoversLeft}
use Rattle.cover_decompose.proofs.plan.Plan.covers.Given as goal

abbrev pub invariant-loop-place : goal.invariant-loop-place
invariant-loop-place l = CoversLeft l.initial.self l.covers (map (λ ks. ks.items) l.inputs) l.first l.places l.self l.place-index
