use Rattle.std.proofs.Common.{arith}
use Rattle.merging.proofs.GoingOn.{follows_none, goes_more, goes_none}
use Rattle.merging.proofs.joining.read_too.Goals as goal

pub returns-then-is_some-clause-follows : goal.returns-then-is_some-clause-follows
returns-then-is_some-clause-follows c = follows_none c.args.space.now c.requires.serves

pub returns-then-is_some-clause-goes : goal.returns-then-is_some-clause-goes
returns-then-is_some-clause-goes c = λ some. goes_more 0 0 0 4 c.args.space.now.trial c.args.space.now.trial c.args.log.now.items c.args.log.now.items (omega arith) (omega arith) (goes_none c.args.space.now.trial c.args.log.now.items)

pub returns-clause-goes : goal.returns-clause-goes
returns-clause-goes c = λ some. c.in_ok-added.ensures.goes c.if-not-added.false
