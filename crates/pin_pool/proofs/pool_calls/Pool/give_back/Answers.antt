use Rattle.std.proofs.Common.{ap}
use Rattle.pin_pool.specs.Pins.{Pins}
use Rattle.pin_pool.proofs.Calls.{free-by, paired-same}
use Rattle.pin_pool.proofs.RingsOf.{rings-returned, valid-of}
use Rattle.pin_pool.proofs.Totalled.{inputs-same}
use Rattle.pin_pool.proofs.pool_calls.Pool.give_back.Goals as goal

pub give_back-requires : goal.give_back-requires
give_back-requires c = free-by c.self.inside.store c.args.pin.0 c.self.invariant.0 (rw (← c.self.view_is) at c.requires)

pub returns-clause-rings : goal.returns-clause-rings
returns-clause-rings c = rw (← c.self.view_is) (rings-returned c.self.inside.store c.give_back.new.self c.args.pin.0 c.give_back.ensures)

pub returns-clause-valid : goal.returns-clause-valid
returns-clause-valid c = valid-of c.give_back.new.self c.tell_kept-2.ensures (paired-same c.self.inside.store c.give_back.new.self c.self.invariant.0 (ap (λ (x : Pins). x.inputs) c.give_back.ensures) (ap (λ (x : Pins). x.fanouts) c.give_back.ensures))

pub invariant_of-self : goal.invariant_of-self
invariant_of-self c = (paired-same c.self.inside.store c.give_back.new.self c.self.invariant.0 (ap (λ (x : Pins). x.inputs) c.give_back.ensures) (ap (λ (x : Pins). x.fanouts) c.give_back.ensures), (tt, inputs-same c.self.inside.store c.give_back.new.self _ _ (ap (λ (x : Pins). x.inputs) c.give_back.ensures) c.self.invariant.1.1))
