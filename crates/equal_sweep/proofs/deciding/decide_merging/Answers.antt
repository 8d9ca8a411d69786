use Rattle.equal_sweep.proofs.deciding.decide_merging.Goals as goal

pub returns-then-is_decided-clause-written : goal.returns-then-is_decided-clause-written
returns-then-is_decided-clause-written c = c.likeness_fits.ensures c.args.model.now c.args.other.now c.args.budget c.in_ok-likeness.ensures.likeness

pub returns-in-None-clause-written : goal.returns-in-None-clause-written
returns-in-None-clause-written c = c.likeness_fits.ensures c.args.model.now c.args.other.now c.args.budget c.in_ok-likeness.ensures.likeness
