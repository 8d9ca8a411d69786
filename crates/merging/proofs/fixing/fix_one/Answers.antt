use Rattle.merging.proofs.GoingOn.{follows_none, follows_then, goes_none, goes_then}
use Rattle.merging.proofs.fixing.fix_one.Goals as goal

pub loop-position-init : goal.loop-position-init
loop-position-init c = record { follows = follows_none c.args.space.now c.requires.serves; goes = goes_none c.args.space.now.trial c.args.log.now.items }

pub loop-position-preserved : goal.loop-position-preserved
loop-position-preserved c = record {
  follows = follows_then c.args.space.now c.loop-position.space c.fix_pin.new.space c.loop-position.invariant.follows c.in_ok-fixed.ensures.follows;
  goes = goes_then 0 0 0 0 c.args.space.now.trial c.loop-position.space.trial c.fix_pin.new.space.trial c.args.log.now.items c.loop-position.log.items c.fix_pin.new.log.items c.loop-position.invariant.goes c.in_ok-fixed.ensures.goes;
}

pub returns-then-ended-clause-follows : goal.returns-then-ended-clause-follows
returns-then-ended-clause-follows c = follows_then c.args.space.now c.loop-position.space c.fix_pin.new.space c.loop-position.invariant.follows c.in_ok-fixed.ensures.follows

pub returns-then-ended-clause-goes : goal.returns-then-ended-clause-goes
returns-then-ended-clause-goes c = goes_then 0 0 0 0 c.args.space.now.trial c.loop-position.space.trial c.fix_pin.new.space.trial c.args.log.now.items c.loop-position.log.items c.fix_pin.new.log.items c.loop-position.invariant.goes c.in_ok-fixed.ensures.goes
