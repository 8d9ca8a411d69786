use Rattle.pin_pool.proofs.Calls.{paired-same}
use Rattle.pin_pool.proofs.RingsOf.{listed, valid-of}
use Rattle.std.proofs.Common.{ℕ, List, sym, subst, ◌∙◌}
use Rattle.pin_pool.specs.Inner.Totals.{IsCounted}
use Rattle.pin_pool.proofs.Totalled.{inputs-same}
use Rattle.pin_pool.proofs.pool_calls.Pool.copy.Goals as goal

pub copy-requires : goal.copy-requires
copy-requires c = λ q at. listed c.self.inside.store.inputs q (c.self.invariant.0.read q (at.0, at.2))

pub invariant_of-result : goal.invariant_of-result
invariant_of-result c = (paired-same c.self.inside.store c.in_ok-store.store c.self.invariant.0 c.in_ok-store.ensures.inputs c.in_ok-store.ensures.fanouts, (tt, subst (λ (xs : List ℕ). IsCounted c.in_ok-store.store xs c.self.inside.linked) (sym (c.in_ok-counts.ensures.items ∙ c.deref.ensures.value)) (inputs-same c.self.inside.store c.in_ok-store.store _ _ c.in_ok-store.ensures.inputs c.self.invariant.1.1)))

pub returns-clause-valid : goal.returns-clause-valid
returns-clause-valid c = valid-of c.in_ok-store.store c.tell_kept.ensures (paired-same c.self.inside.store c.in_ok-store.store c.self.invariant.0 c.in_ok-store.ensures.inputs c.in_ok-store.ensures.fanouts)
