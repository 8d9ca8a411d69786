use Rattle.merging.proofs.GoingOn.{follows_none, free_at, goes_none}
use Rattle.merging.proofs.fixing.fix_pin.Goals as goal

pub returns-then-eq-clause-follows : goal.returns-then-eq-clause-follows
returns-then-eq-clause-follows c = follows_none c.args.space.now c.requires.serves

pub returns-then-eq-clause-goes : goal.returns-then-eq-clause-goes
returns-then-eq-clause-goes c = goes_none c.args.space.now.trial c.args.log.now.items

pub returns-in-None-clause-follows : goal.returns-in-None-clause-follows
returns-in-None-clause-follows c = follows_none c.args.space.now c.requires.serves

pub returns-in-None-clause-goes : goal.returns-in-None-clause-goes
returns-in-None-clause-goes c = goes_none c.args.space.now.trial c.args.log.now.items

pub fix_free-requires-clause-free : goal.fix_free-requires-clause-free
fix_free-requires-clause-free c = free_at c.graph.result.now c.args.space.now.trial.graph c.args.fault c.driver.result c.in-Some.driver c.driver.ensures c.graph.ensures c.in-Some.is c.if-driver-gt1.true

pub returns-else-driver-gt1-clause-follows : goal.returns-else-driver-gt1-clause-follows
returns-else-driver-gt1-clause-follows c = follows_none c.args.space.now c.requires.serves

pub returns-else-driver-gt1-clause-goes : goal.returns-else-driver-gt1-clause-goes
returns-else-driver-gt1-clause-goes c = goes_none c.args.space.now.trial c.args.log.now.items
