use Rattle.std.proofs.Common.{Option, ap, ℕ}
use Rattle.std.specs.Option.{is_some}
use Rattle.merging.proofs.GoingOn.{follows_then, goes_then}
use Rattle.merging.proofs.joining.read_alone.Goals as goal

pub returns-in_ok-done-in-Some-2-clause-follows : goal.returns-in_ok-done-in-Some-2-clause-follows
returns-in_ok-done-in-Some-2-clause-follows c = follows_then c.args.space.now c.read_too.new.space c.fix_others.new.space c.in_ok-read_too.ensures.follows c.in_ok-done-in-Some-2.ensures.follows

pub returns-in_ok-done-in-Some-2-clause-goes : goal.returns-in_ok-done-in-Some-2-clause-goes
returns-in_ok-done-in-Some-2-clause-goes c = λ done.
    goes_then 0 4 0 0 c.args.space.now.trial c.read_too.new.space.trial c.fix_others.new.space.trial c.args.log.now.items c.read_too.new.log.items c.fix_others.new.log.items (c.in_ok-read_too.ensures.goes (ap (λ (o : Option ℕ). is_some o) c.in-Some-2.is)) c.in_ok-done-in-Some-2.ensures.goes
