use Rattle.pin_pool.proofs.Calls.{can-restore, held-by, paired-redrive, rings-redrive, stood-redrive, valid-redrive}
use Rattle.pin_pool.proofs.RingsOf.{valid-of}
use Rattle.pin_pool.proofs.Totalled.{inputs-same}
use Rattle.pin_pool.specs.Pins.{Pins}
use Rattle.std.proofs.Common.{ap}
use Rattle.pin_pool.proofs.pool_calls.Pool.move_to_driver.Goals as goal

pub move_to_driver-slot-requires-clause-linked : goal.move_to_driver-slot-requires-clause-linked
move_to_driver-slot-requires-clause-linked c = held-by c.self.inside.store c.args.pin.0 c.self.invariant.0 (rw (← c.self.view_is) at c.requires.linked)

pub invariant_of-self : goal.invariant_of-self
invariant_of-self c = (paired-redrive c.self.inside.store c.move_to_driver-slot.new.self c.args.pin.0 c.args.driver c.tell_kept.ensures c.self.invariant.0 c.tell_kept-2.ensures (rw (← c.self.view_is) at c.requires.linked) (rw (← c.self.view_is) at c.requires.driver) c.move_to_driver-slot.ensures.lists, (tt, inputs-same c.self.inside.store c.move_to_driver-slot.new.self _ _ (ap (λ (x : Pins). x.inputs) c.move_to_driver-slot.ensures.lists) c.self.invariant.1.1))

pub returns-clause-rings : goal.returns-clause-rings
returns-clause-rings c = rw (← c.self.view_is) (rings-redrive c.self.inside.store c.move_to_driver-slot.new.self c.args.pin.0 c.args.driver c.tell_kept.ensures c.self.invariant.0 c.tell_kept-2.ensures (rw (← c.self.view_is) at c.requires.linked) (rw (← c.self.view_is) at c.requires.driver) c.move_to_driver-slot.ensures.lists)

pub returns-clause-stood : goal.returns-clause-stood
returns-clause-stood c = rw (← c.self.view_is) (stood-redrive c.self.inside.store c.move_to_driver-slot.new.self c.args.pin.0 c.args.driver c.tell_kept.ensures c.self.invariant.0 c.tell_kept-2.ensures (rw (← c.self.view_is) at c.requires.linked) (rw (← c.self.view_is) at c.requires.driver) c.move_to_driver-slot.ensures.lists c.move_to_driver-slot.result c.move_to_driver-slot.ensures.in_gate c.move_to_driver-slot.ensures.in_driver)

pub returns-clause-back : goal.returns-clause-back
returns-clause-back c = can-restore c.self.inside.store c.move_to_driver-slot.new.self c.args.pin.0 c.args.driver c.tell_kept.ensures c.self.invariant.0 c.tell_kept-2.ensures (rw (← c.self.view_is) at c.requires.linked) (rw (← c.self.view_is) at c.requires.driver) c.move_to_driver-slot.ensures.lists c.move_to_driver-slot.result c.move_to_driver-slot.ensures.in_gate c.move_to_driver-slot.ensures.in_driver

pub returns-clause-was_valid : goal.returns-clause-was_valid
returns-clause-was_valid c = rw (← c.self.view_is) (valid-of _ c.tell_kept.ensures c.self.invariant.0)

pub returns-clause-valid : goal.returns-clause-valid
returns-clause-valid c = valid-redrive c.self.inside.store c.move_to_driver-slot.new.self c.args.pin.0 c.args.driver c.tell_kept.ensures c.self.invariant.0 c.tell_kept-2.ensures (rw (← c.self.view_is) at c.requires.linked) (rw (← c.self.view_is) at c.requires.driver) c.move_to_driver-slot.ensures.lists
