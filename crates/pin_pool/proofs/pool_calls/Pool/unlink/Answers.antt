use Rattle.pin_pool.proofs.Calls.{can-relink, held-by, others-unlink, paired-unlink, rings-unlink, stood-unlink, valid-unlink}
use Rattle.pin_pool.proofs.RingsOf.{valid-of}
use Rattle.std.proofs.Common.{◌≡◌, ℕ, length, ap, ◌∙◌}
use Rattle.std.proofs.lemmas.List.{length-map}
use Rattle.pin_pool.specs.Ring.{without}
use Rattle.pin_pool.specs.Pins.{Pins}
use Rattle.pin_pool.specs.Rings.{Rings, rings_of, IsValid, all_without}
use Rattle.pin_pool.proofs.Totalled.{out-within, out-some, linked-some, counted-out}
use Rattle.pin_pool.proofs.pool_calls.Pool.unlink.Goals as goal

pub unlink-slot-requires : goal.unlink-slot-requires
unlink-slot-requires c = held-by c.self.inside.store c.args.pin.0 c.self.invariant.0 (rw (← c.self.view_is) at c.requires)

pub invariant_of-self : goal.invariant_of-self
invariant_of-self c =
    let i = c.self.inside in
    let v = i.store in
    let w = c.unlink-slot.new.self in
    let g : ℕ = c.unlink-slot.result.gate in
    let valid : IsValid v = valid-of v c.tell_kept.ensures c.self.invariant.0 in
    let at = c.unlink-slot.ensures.in_gate.stands in
    let size : length w.inputs ≡ length v.inputs = ap (λ (x : Pins). length x.inputs) c.unlink-slot.ensures.lists ∙ length-map v.inputs (without c.args.pin.0) in
    let e : (rings_of w).inputs ≡ all_without c.args.pin.0 (rings_of v).inputs = ap (λ (r : Rings). r.inputs) (rings-unlink c.self.inside.store c.unlink-slot.new.self c.args.pin.0 c.tell_kept.ensures c.self.invariant.0 c.tell_kept-2.ensures c.unlink-slot.ensures.lists) in
    (paired-unlink c.self.inside.store c.unlink-slot.new.self c.args.pin.0 c.tell_kept.ensures c.self.invariant.0 c.tell_kept-2.ensures c.unlink-slot.ensures.lists, (tt, counted-out v w i.counts.items i.linked c.self.invariant.1.1 g c.args.pin.0 valid at size e c.count_out.new.counts.items c.count_out.new.linked c.count_out.ensures.counts c.count_out.ensures.linked))

pub returns-clause-rings : goal.returns-clause-rings
returns-clause-rings c = rw (← c.self.view_is) (rings-unlink c.self.inside.store c.unlink-slot.new.self c.args.pin.0 c.tell_kept.ensures c.self.invariant.0 c.tell_kept-2.ensures c.unlink-slot.ensures.lists)

pub returns-clause-stood : goal.returns-clause-stood
returns-clause-stood c = rw (← c.self.view_is) (stood-unlink c.self.inside.store c.unlink-slot.new.self c.args.pin.0 c.tell_kept.ensures c.self.invariant.0 c.tell_kept-2.ensures c.unlink-slot.ensures.lists c.unlink-slot.result c.unlink-slot.ensures.in_gate c.unlink-slot.ensures.in_driver)

pub returns-clause-back : goal.returns-clause-back
returns-clause-back c = can-relink c.self.inside.store c.unlink-slot.new.self c.args.pin.0 c.tell_kept.ensures c.self.invariant.0 c.tell_kept-2.ensures c.unlink-slot.ensures.lists c.unlink-slot.result c.unlink-slot.ensures.in_gate c.unlink-slot.ensures.in_driver

pub returns-clause-others : goal.returns-clause-others
returns-clause-others c = rw (← c.self.view_is) (others-unlink c.self.inside.store c.unlink-slot.new.self c.args.pin.0 c.tell_kept.ensures c.self.invariant.0 c.tell_kept-2.ensures c.unlink-slot.ensures.lists)

pub returns-clause-was_valid : goal.returns-clause-was_valid
returns-clause-was_valid c = rw (← c.self.view_is) (valid-of _ c.tell_kept.ensures c.self.invariant.0)

pub returns-clause-valid : goal.returns-clause-valid
returns-clause-valid c = valid-unlink c.self.inside.store c.unlink-slot.new.self c.args.pin.0 c.tell_kept.ensures c.self.invariant.0 c.tell_kept-2.ensures c.unlink-slot.ensures.lists

pub count_out-requires-clause-gate : goal.count_out-requires-clause-gate
count_out-requires-clause-gate c =
    let i = c.self.inside in
    let v = i.store in
    let w = c.unlink-slot.new.self in
    let g : ℕ = c.unlink-slot.result.gate in
    let valid : IsValid v = valid-of v c.tell_kept.ensures c.self.invariant.0 in
    let at = c.unlink-slot.ensures.in_gate.stands in
    let size : length w.inputs ≡ length v.inputs = ap (λ (x : Pins). length x.inputs) c.unlink-slot.ensures.lists ∙ length-map v.inputs (without c.args.pin.0) in
    let e : (rings_of w).inputs ≡ all_without c.args.pin.0 (rings_of v).inputs = ap (λ (r : Rings). r.inputs) (rings-unlink c.self.inside.store c.unlink-slot.new.self c.args.pin.0 c.tell_kept.ensures c.self.invariant.0 c.tell_kept-2.ensures c.unlink-slot.ensures.lists) in
    out-within v w i.counts.items i.linked c.self.invariant.1.1 g c.args.pin.0 valid at

pub count_out-requires-clause-some : goal.count_out-requires-clause-some
count_out-requires-clause-some c =
    let i = c.self.inside in
    let v = i.store in
    let w = c.unlink-slot.new.self in
    let g : ℕ = c.unlink-slot.result.gate in
    let valid : IsValid v = valid-of v c.tell_kept.ensures c.self.invariant.0 in
    let at = c.unlink-slot.ensures.in_gate.stands in
    let size : length w.inputs ≡ length v.inputs = ap (λ (x : Pins). length x.inputs) c.unlink-slot.ensures.lists ∙ length-map v.inputs (without c.args.pin.0) in
    let e : (rings_of w).inputs ≡ all_without c.args.pin.0 (rings_of v).inputs = ap (λ (r : Rings). r.inputs) (rings-unlink c.self.inside.store c.unlink-slot.new.self c.args.pin.0 c.tell_kept.ensures c.self.invariant.0 c.tell_kept-2.ensures c.unlink-slot.ensures.lists) in
    out-some v w i.counts.items i.linked c.self.invariant.1.1 g c.args.pin.0 valid at

pub count_out-requires-clause-all : goal.count_out-requires-clause-all
count_out-requires-clause-all c =
    let i = c.self.inside in
    let v = i.store in
    let w = c.unlink-slot.new.self in
    let g : ℕ = c.unlink-slot.result.gate in
    let valid : IsValid v = valid-of v c.tell_kept.ensures c.self.invariant.0 in
    let at = c.unlink-slot.ensures.in_gate.stands in
    let size : length w.inputs ≡ length v.inputs = ap (λ (x : Pins). length x.inputs) c.unlink-slot.ensures.lists ∙ length-map v.inputs (without c.args.pin.0) in
    let e : (rings_of w).inputs ≡ all_without c.args.pin.0 (rings_of v).inputs = ap (λ (r : Rings). r.inputs) (rings-unlink c.self.inside.store c.unlink-slot.new.self c.args.pin.0 c.tell_kept.ensures c.self.invariant.0 c.tell_kept-2.ensures c.unlink-slot.ensures.lists) in
    linked-some v w i.counts.items i.linked c.self.invariant.1.1 g c.args.pin.0 valid at size e
