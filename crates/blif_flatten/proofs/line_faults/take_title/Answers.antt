use Rattle.blif_flatten.proofs.Lines.{distinct-last}
use Rattle.std.proofs.Common.{◌≡◌, ◌∙◌, sym, subst, true, List}
use Rattle.rm_base.specs.Words.{Word}
use Rattle.rm_model.specs.WellFormed.{is_distinct}
use Rattle.blif_flatten.proofs.line_faults.take_title.Goals as goal

pub returns-in-Ok-clause-once : goal.returns-in-Ok-clause-once
returns-in-Ok-clause-once c = λ once. subst (λ (ws : List Word). is_distinct ws ≡ true) (sym c.in-Ok.ensures.ok) (distinct-last c.args.models.now c.word_of-word.result.now once (sym c.has.ensures ∙ c.if-has.false))
