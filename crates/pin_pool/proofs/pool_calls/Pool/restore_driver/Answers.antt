use Rattle.pin_pool.proofs.Calls.{driver-by, paired-restore, rings-restore, undoes-restore, valid-restore}
use Rattle.pin_pool.proofs.Totalled.{inputs-same}
use Rattle.pin_pool.specs.Pins.{Pins}
use Rattle.std.proofs.Common.{ap}
use Rattle.pin_pool.proofs.pool_calls.Pool.restore_driver.Goals as goal

pub restore_driver-requires : goal.restore_driver-requires
restore_driver-requires c = driver-by c.self.inside.store c.args.pin.0 c.args.slot c.tell_kept.ensures c.self.invariant.0 (rw (← c.self.view_is) at c.requires)

pub invariant_of-self : goal.invariant_of-self
invariant_of-self c = (paired-restore c.self.inside.store c.restore_driver.new.self c.args.pin.0 c.args.slot c.tell_kept.ensures c.self.invariant.0 c.tell_kept-2.ensures (rw (← c.self.view_is) at c.requires) c.restore_driver.ensures, (tt, inputs-same c.self.inside.store c.restore_driver.new.self _ _ (ap (λ (x : Pins). x.inputs) c.restore_driver.ensures) c.self.invariant.1.1))

pub returns-clause-rings : goal.returns-clause-rings
returns-clause-rings c = rw (← c.self.view_is) (rings-restore c.self.inside.store c.restore_driver.new.self c.args.pin.0 c.args.slot c.tell_kept.ensures c.self.invariant.0 c.tell_kept-2.ensures (rw (← c.self.view_is) at c.requires) c.restore_driver.ensures)

pub returns-clause-undoes : goal.returns-clause-undoes
returns-clause-undoes c = rw (← c.self.view_is) (undoes-restore c.self.inside.store c.restore_driver.new.self c.args.pin.0 c.args.slot c.tell_kept.ensures c.self.invariant.0 c.tell_kept-2.ensures (rw (← c.self.view_is) at c.requires) c.restore_driver.ensures)

pub returns-clause-valid : goal.returns-clause-valid
returns-clause-valid c = valid-restore c.self.inside.store c.restore_driver.new.self c.args.pin.0 c.args.slot c.tell_kept.ensures c.self.invariant.0 c.tell_kept-2.ensures (rw (← c.self.view_is) at c.requires) c.restore_driver.ensures
