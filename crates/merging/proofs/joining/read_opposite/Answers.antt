use Rattle.merging.proofs.GoingOn.{follows_then, goes_then}
use Rattle.merging.proofs.joining.read_opposite.Goals as goal

pub returns-in_ok-done-in-Some-clause-follows : goal.returns-in_ok-done-in-Some-clause-follows
returns-in_ok-done-in-Some-clause-follows c = follows_then c.args.space.now c.not_of.new.space c.read_alone.new.space c.in_ok-not_of.ensures.follows c.in_ok-done-in-Some.ensures.follows

pub returns-in_ok-done-in-Some-clause-goes : goal.returns-in_ok-done-in-Some-clause-goes
returns-in_ok-done-in-Some-clause-goes c = λ done. goes_then 1 5 0 4 c.args.space.now.trial c.not_of.new.space.trial c.read_alone.new.space.trial c.args.log.now.items c.not_of.new.log.items c.read_alone.new.log.items c.in_ok-not_of.ensures.goes (c.in_ok-done-in-Some.ensures.goes done)
