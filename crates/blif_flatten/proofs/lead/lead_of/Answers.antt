use Rattle.std.proofs.Common.{◌≡◌, ◌∙◌, sym, subst, ap, map, ℕ}
use Rattle.std.specs.Prelude.{IfOk}
use Rattle.blif_format.specs.Uses.{Use}
use Rattle.blif_flatten.specs.Instances.{free_number, lead}
use Rattle.blif_flatten.specs.Inner.Leads.{unmarked_from}
use Rattle.blif_flatten.specs.Inner.Uses.{names_at}
use Rattle.blif_flatten.proofs.Leads.{names-count, unmarked-free}
use Rattle.blif_flatten.proofs.TwiceDriven.{names-of-uses}
use Rattle.blif_flatten.proofs.lead.lead_of.Goals as goal

pub returns : goal.returns
returns c = λ modules known.
    subst (λ (n : ℕ). IfOk c.lead_text.result (λ made. made.items ≡ lead n))
    (c.least_unmarked.ensures ∙ (ap (unmarked_from 0) c.as_slice-2.ensures.value
    ∙ (unmarked-free (names_at c.as_slice.result.now) c.in_ok-marks.marks.items (c.in_ok-marks.ensures.count ∙ names-count c.as_slice.result.now) c.in_ok-marks.ensures.small c.in_ok-marks.ensures.marks
    ∙ ap free_number (ap names_at c.as_slice.ensures.value ∙ (sym (names-of-uses c.in_ok-uses.uses.items) ∙ ap (map (λ (u : Use). u.name)) (c.in_ok-uses.ensures modules known))))))
    c.lead_text.ensures
