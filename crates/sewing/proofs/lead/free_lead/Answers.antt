use Rattle.std.proofs.Common.{◌≡◌, ◌∙◌, subst, ap, ℕ}
use Rattle.std.specs.Prelude.{IfOk}
use Rattle.sewing.specs.Names.{numbered_lead}
use Rattle.sewing.specs.Inner.Making.{unmarked_from}
use Rattle.sewing.proofs.Marks.{unmarked-free}
use Rattle.sewing.proofs.lead.free_lead.Goals as goal

pub returns : goal.returns
returns c =
    subst (λ (n : ℕ). IfOk c.lead_text.result (λ made. made.items ≡ numbered_lead n))
    (c.least_unmarked.ensures ∙ (ap (unmarked_from 0) c.as_slice.ensures.value
    ∙ unmarked-free c.args.names.now c.in_ok-marks.marks.items c.in_ok-marks.ensures.count c.in_ok-marks.ensures.small c.in_ok-marks.ensures.marks))
    c.lead_text.ensures
