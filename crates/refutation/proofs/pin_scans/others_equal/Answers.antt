use Rattle.refutation.proofs.pin_scans.others_equal.Goals as goal

pub returns : goal.returns
returns c = c.others_pass.ensures _ _ c.look_at_facts.ensures
