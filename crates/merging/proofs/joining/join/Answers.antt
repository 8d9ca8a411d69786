use Rattle.std.proofs.Common.{arith}
use Rattle.merging.proofs.GoingOn.{goes_more}
use Rattle.merging.proofs.joining.join.Goals as goal

pub returns-then-eq-clause-goes : goal.returns-then-eq-clause-goes
returns-then-eq-clause-goes c = λ done. goes_more 0 0 1 9 c.args.space.now.trial c.make_constant.new.space.trial c.args.log.now.items c.make_constant.new.log.items (omega arith) (omega arith) c.in_ok-done.ensures.goes

pub returns-then-not-opposite-clause-goes : goal.returns-then-not-opposite-clause-goes
returns-then-not-opposite-clause-goes c = λ done. goes_more 0 4 1 9 c.args.space.now.trial c.read_alone.new.space.trial c.args.log.now.items c.read_alone.new.log.items (omega arith) (omega arith) (c.in_ok-done-2.ensures.goes done)
