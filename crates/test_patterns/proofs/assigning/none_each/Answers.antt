use Rattle.std.proofs.Common.{ℕ, None, [], ◌∷◌, ◌+◌, ap, ◌∙◌, refl}
use Rattle.std.proofs.lemmas.List.{length-append}
use Rattle.test_patterns.proofs.Assigned.{empty_more, empty_none}
use Rattle.test_patterns.proofs.assigning.none_each.Goals as goal

pub loop-at-init : goal.loop-at-init
loop-at-init c = rw c.new-firsts.ensures.items (refl, empty_none)

pub loop-at-preserved : goal.loop-at-preserved
loop-at-preserved c = rw c.in_ok-push.ensures.items (length-append c.loop-at.firsts.items (None ∷ []) ∙ ap (λ (n : ℕ). n + 1) c.loop-at.invariant.0, empty_more c.loop-at.firsts.items c.loop-at.invariant.1)
