use Rattle.fault_sim.proofs.observing.+observability_of.Given as goal

abbrev pub decreases-observability_of : goal.decreases-observability_of
decreases-observability_of l = l.depth
