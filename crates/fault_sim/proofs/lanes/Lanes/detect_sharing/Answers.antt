use Rattle.fault_sim.proofs.lanes.Lanes.detect_sharing.Goals as goal

pub found_sharing-requires-clause-right : goal.found_sharing-requires-clause-right
found_sharing-requires-clause-right c = rw c.as_slice.ensures.value (rw (← c.self.view_is) at c.requires.right)

pub returns-clause-detects : goal.returns-clause-detects
returns-clause-detects c = rw (← c.self.view_is) (rw c.as_slice.ensures.value at c.found_sharing.ensures.detects)

pub returns-clause-right : goal.returns-clause-right
returns-clause-right c = rw (← c.self.view_is) (rw c.as_slice.ensures.value at c.found_sharing.ensures.right)
