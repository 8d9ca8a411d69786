use Rattle.std.proofs.Common.{ap, false, replicate, ◌∙◌}
use Rattle.local_evaluation.proofs.Worklists.{clear_less, none_marked}
use Rattle.local_evaluation.proofs.worklist.Worklist.clear.Goals as goal

pub loop-smaller : goal.loop-smaller
loop-smaller c = clear_less c.loop.self c.take.new.self c.in-Some.field-0.0 c.in-Some.ensures

pub returns : goal.returns
returns c = let h = c.in_default.ensures in h.0 ∙ none_marked c.loop.self h.1 ∙ ap (λ n. replicate n false) c.loop.invariant
