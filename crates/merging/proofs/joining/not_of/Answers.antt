use Rattle.std.proofs.Common.{arith}
use Rattle.merging.proofs.GoingOn.{follows_none, goes_more, goes_none}
use Rattle.merging.proofs.joining.not_of.Goals as goal

pub returns-in-Some-clause-follows : goal.returns-in-Some-clause-follows
returns-in-Some-clause-follows c = follows_none c.args.space.now c.requires.serves

pub returns-in-Some-clause-goes : goal.returns-in-Some-clause-goes
returns-in-Some-clause-goes c = goes_more 0 0 1 5 c.args.space.now.trial c.args.space.now.trial c.args.log.now.items c.args.log.now.items (omega arith) (omega arith) (goes_none c.args.space.now.trial c.args.log.now.items)
