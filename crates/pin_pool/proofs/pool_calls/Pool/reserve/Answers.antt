use Rattle.std.proofs.Common.{◌≡◌, ◌≤◌, ◌∙◌, ℕ, [], length, replicate, refl, arith, length-append, ap}
use Rattle.pin_pool.specs.Pins.{Pins}
use Rattle.pin_pool.specs.Rings.{Rings, rings_of}
use Rattle.pin_pool.proofs.Totalled.{counted-wider}
use Rattle.pin_pool.proofs.Calls.{can-move-back-more, can-relink-more, can-restore-more, more-grown, more-same, on-both, paired-by}
use Rattle.pin_pool.proofs.RingsOf.{rings-grown, valid-of}
use Rattle.pin_pool.proofs.pool_calls.Pool.reserve.Goals as goal

pub invariant_of-self : goal.invariant_of-self
invariant_of-self c = (c.self.invariant.0, (tt, counted-wider c.self.inside.store c.self.inside.store c.self.inside.counts.items c.widen.new.counts.items c.self.inside.linked refl (omega arith) (let room = c.self.invariant.1.1.room in let more = c.widen.ensures.more in omega (arith, room, more)) c.widen.ensures.same c.self.invariant.1.1))

pub returns-in_err-widen-clause-valid : goal.returns-in_err-widen-clause-valid
returns-in_err-widen-clause-valid c = valid-of c.self.inside.store c.tell_kept.ensures c.self.invariant.0

pub invariant_of-self-2 : goal.invariant_of-self-2
invariant_of-self-2 c =
    let v = c.self.inside.store in
    let w = c.reserve-done.new.self in
    let e : (rings_of w).inputs ≡ (rings_of v).inputs = ap (λ (r : Rings). r.inputs) (on-both c.reserve-done.result _ _ _ (rings-grown c.self.inside.store c.reserve-done.new.self) (λ (e : c.reserve-done.new.self ≡ c.self.inside.store). ap rings_of e) c.reserve-done.ensures.grown c.reserve-done.ensures.refused) in
    let wide = on-both c.reserve-done.result _ _ (length v.inputs ≤ length w.inputs) (λ g. (let more = ap length g.inputs.1 ∙ length-append v.inputs (replicate g.inputs.0 []) in omega (arith, more))) (λ (e : w ≡ v). (let same = ap (λ (x : Pins). length x.inputs) e in omega (arith, same))) c.reserve-done.ensures.grown c.reserve-done.ensures.refused in
    let enough = length c.widen.new.counts.items in
    let old = c.self.invariant.1.1.room in
    let more = c.widen.ensures.more in
    let room = on-both c.reserve-done.result _ _ (length w.inputs ≤ enough) (λ (x : (n : ℕ) → c.args.nodes ≤ n → length v.inputs ≤ n → length w.inputs ≤ n). x enough (let r = c.in_ok-widen.ensures.room in omega (arith, r)) (omega (arith, old, more))) (λ (e : w ≡ v). (let same = ap (λ (x : Pins). length x.inputs) e in omega (arith, same, old, more))) c.reserve-done.ensures.exact c.reserve-done.ensures.refused in
    (paired-by c.reserve-done.new.self (rings_of c.self.inside.store) (on-both c.reserve-done.result _ _ _ (rings-grown c.self.inside.store c.reserve-done.new.self) (λ (e : c.reserve-done.new.self ≡ c.self.inside.store). ap rings_of e) c.reserve-done.ensures.grown c.reserve-done.ensures.refused) c.self.invariant.0, (tt, counted-wider v w c.self.inside.counts.items c.widen.new.counts.items c.self.inside.linked e wide room c.widen.ensures.same c.self.invariant.1.1))

pub returns-clause-rings : goal.returns-clause-rings
returns-clause-rings c = rw (← c.self.view_is) (on-both c.reserve-done.result _ _ _ (rings-grown c.self.inside.store c.reserve-done.new.self) (λ (e : c.reserve-done.new.self ≡ c.self.inside.store). ap rings_of e) c.reserve-done.ensures.grown c.reserve-done.ensures.refused)

pub returns-clause-valid : goal.returns-clause-valid
returns-clause-valid c = valid-of c.reserve-done.new.self c.tell_kept-2.ensures (paired-by c.reserve-done.new.self (rings_of c.self.inside.store) (on-both c.reserve-done.result _ _ _ (rings-grown c.self.inside.store c.reserve-done.new.self) (λ (e : c.reserve-done.new.self ≡ c.self.inside.store). ap rings_of e) c.reserve-done.ensures.grown c.reserve-done.ensures.refused) c.self.invariant.0)

pub returns-clause-relinks : goal.returns-clause-relinks
returns-clause-relinks c = rw (← c.self.view_is) (can-relink-more c.self.inside.store c.reserve-done.new.self (on-both c.reserve-done.result _ _ _ (rings-grown c.self.inside.store c.reserve-done.new.self) (λ (e : c.reserve-done.new.self ≡ c.self.inside.store). ap rings_of e) c.reserve-done.ensures.grown c.reserve-done.ensures.refused) (on-both c.reserve-done.result _ _ _ (more-grown c.self.inside.store c.reserve-done.new.self) (more-same c.self.inside.store c.reserve-done.new.self) c.reserve-done.ensures.grown c.reserve-done.ensures.refused))

pub returns-clause-restores : goal.returns-clause-restores
returns-clause-restores c = rw (← c.self.view_is) (can-restore-more c.self.inside.store c.reserve-done.new.self (on-both c.reserve-done.result _ _ _ (rings-grown c.self.inside.store c.reserve-done.new.self) (λ (e : c.reserve-done.new.self ≡ c.self.inside.store). ap rings_of e) c.reserve-done.ensures.grown c.reserve-done.ensures.refused) (on-both c.reserve-done.result _ _ _ (more-grown c.self.inside.store c.reserve-done.new.self) (more-same c.self.inside.store c.reserve-done.new.self) c.reserve-done.ensures.grown c.reserve-done.ensures.refused))

pub returns-clause-moves_back : goal.returns-clause-moves_back
returns-clause-moves_back c = rw (← c.self.view_is) (can-move-back-more c.self.inside.store c.reserve-done.new.self (on-both c.reserve-done.result _ _ _ (rings-grown c.self.inside.store c.reserve-done.new.self) (λ (e : c.reserve-done.new.self ≡ c.self.inside.store). ap rings_of e) c.reserve-done.ensures.grown c.reserve-done.ensures.refused) (on-both c.reserve-done.result _ _ _ (more-grown c.self.inside.store c.reserve-done.new.self) (more-same c.self.inside.store c.reserve-done.new.self) c.reserve-done.ensures.grown c.reserve-done.ensures.refused))
