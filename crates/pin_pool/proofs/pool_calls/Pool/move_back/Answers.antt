use Rattle.pin_pool.proofs.Calls.{paired-move_back, rings-move_back, undoes-move_back, valid-move_back}
use Rattle.pin_pool.proofs.Totalled.{inputs-same}
use Rattle.pin_pool.specs.Pins.{Pins}
use Rattle.std.proofs.Common.{ap}
use Rattle.pin_pool.proofs.pool_calls.Pool.move_back.Goals as goal

pub invariant_of-self : goal.invariant_of-self
invariant_of-self c = (paired-move_back c.self.inside.store c.move_back.new.self c.args.splice c.tell_kept.ensures c.self.invariant.0 c.tell_kept-2.ensures (rw (← c.self.view_is) at c.requires) c.move_back.ensures, (tt, inputs-same c.self.inside.store c.move_back.new.self _ _ (ap (λ (x : Pins). x.inputs) c.move_back.ensures) c.self.invariant.1.1))

pub returns-clause-rings : goal.returns-clause-rings
returns-clause-rings c = rw (← c.self.view_is) (rings-move_back c.self.inside.store c.move_back.new.self c.args.splice c.tell_kept.ensures c.self.invariant.0 c.tell_kept-2.ensures (rw (← c.self.view_is) at c.requires) c.move_back.ensures)

pub returns-clause-undoes : goal.returns-clause-undoes
returns-clause-undoes c = rw (← c.self.view_is) (undoes-move_back c.self.inside.store c.move_back.new.self c.args.splice c.tell_kept.ensures c.self.invariant.0 c.tell_kept-2.ensures (rw (← c.self.view_is) at c.requires) c.move_back.ensures)

pub returns-clause-valid : goal.returns-clause-valid
returns-clause-valid c = valid-move_back c.self.inside.store c.move_back.new.self c.args.splice c.tell_kept.ensures c.self.invariant.0 c.tell_kept-2.ensures (rw (← c.self.view_is) at c.requires) c.move_back.ensures
