use Rattle.std.proofs.lemmas.Result.{IfOk-weaker}
use Rattle.pin_pool.proofs.Calls.{paired-same}
use Rattle.pin_pool.proofs.RingsOf.{rings-claimed, valid-of}
use Rattle.pin_pool.proofs.Totalled.{inputs-same}
use Rattle.pin_pool.proofs.pool_calls.Pool.take.Goals as goal

pub returns-clause-rings : goal.returns-clause-rings
returns-clause-rings c = rw (← c.self.view_is) (IfOk-weaker c.take-pin.result _ _ (λ pin. rings-claimed c.self.inside.store c.take-pin.new.self pin.0 c.take-pin.ensures.inputs c.take-pin.ensures.fanouts) c.take-pin.ensures.taken)

pub returns-clause-valid : goal.returns-clause-valid
returns-clause-valid c = valid-of c.take-pin.new.self c.tell_kept.ensures (paired-same c.self.inside.store c.take-pin.new.self c.self.invariant.0 c.take-pin.ensures.inputs c.take-pin.ensures.fanouts)

pub invariant_of-self : goal.invariant_of-self
invariant_of-self c = (paired-same c.self.inside.store c.take-pin.new.self c.self.invariant.0 c.take-pin.ensures.inputs c.take-pin.ensures.fanouts, (tt, inputs-same c.self.inside.store c.take-pin.new.self _ _ c.take-pin.ensures.inputs c.self.invariant.1.1))
