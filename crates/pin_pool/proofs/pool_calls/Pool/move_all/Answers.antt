use Rattle.pin_pool.proofs.Calls.{paired-move, rings-move, valid-move}
use Rattle.pin_pool.proofs.Totalled.{inputs-same}
use Rattle.pin_pool.specs.Pins.{Pins}
use Rattle.std.proofs.Common.{ap}
use Rattle.pin_pool.proofs.pool_calls.Pool.move_all.Goals as goal

pub invariant_of-self : goal.invariant_of-self
invariant_of-self c = (paired-move c.self.inside.store c.move_all-splice.new.self c.args.from c.args.to c.self.invariant.0 c.tell_kept-2.ensures c.requires.apart (rings-move c.self.inside.store c.move_all-splice.new.self c.args.from c.args.to c.tell_kept.ensures (rw (← c.self.view_is) at c.requires.from) (rw (← c.self.view_is) at c.requires.to) c.move_all-splice.ensures.lists), (tt, inputs-same c.self.inside.store c.move_all-splice.new.self _ _ (ap (λ (x : Pins). x.inputs) c.move_all-splice.ensures.lists) c.self.invariant.1.1))

pub returns-clause-valid : goal.returns-clause-valid
returns-clause-valid c = valid-move c.self.inside.store c.move_all-splice.new.self c.args.from c.args.to c.self.invariant.0 c.tell_kept-2.ensures c.requires.apart (rings-move c.self.inside.store c.move_all-splice.new.self c.args.from c.args.to c.tell_kept.ensures (rw (← c.self.view_is) at c.requires.from) (rw (← c.self.view_is) at c.requires.to) c.move_all-splice.ensures.lists)
