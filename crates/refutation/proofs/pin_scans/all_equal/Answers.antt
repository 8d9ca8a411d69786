use Rattle.local_evaluation.proofs.Public.{scan_all, scan_not_all}
use Rattle.std.proofs.Common.{inl, inr, ◌∙◌, sym}
use Rattle.std.proofs.lemmas.Bool.Decides.{eqb_tells}
use Rattle.refutation.proofs.pin_scans.all_equal.Goals as goal

pub returns : goal.returns
returns c = elim (eqb_tells c.look_at_facts.result.rest 0) [
  | inl t ↦ t.0 ∙ sym (scan_all c.look_at_facts.result _ _ c.look_at_facts.ensures t.1)
  | inr t ↦ t.0 ∙ sym (scan_not_all c.look_at_facts.result _ _ c.look_at_facts.ensures t.1)
]
