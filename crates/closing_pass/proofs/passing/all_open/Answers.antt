use Rattle.std.proofs.Common.{◌≡◌, ◌∙◌, ap, List, [], ◌∷◌, ◌++◌}
use Rattle.std.specs.Prelude.{replicate}
use Rattle.closing_pass.specs.declared.finding.Finding.{Finding}
use Rattle.closing_pass.specs.declared.finding.Finding.TheVariants.{Open}
use Rattle.closing_pass.proofs.Standing.{replicated_more}
use Rattle.closing_pass.proofs.passing.all_open.Goals as goal

pub loop-place-preserved : goal.loop-place-preserved
loop-place-preserved c =
    let one : c.push.new.self.items ≡ c.loop-place.found.items ++ Open ∷ [] = c.in_ok-push.ensures.items in
    let was : c.loop-place.found.items ≡ replicate c.loop-place._place Open = c.loop-place.invariant in
    one ∙ ap (λ (xs : List Finding). xs ++ Open ∷ []) was ∙ replicated_more Open c.loop-place._place
