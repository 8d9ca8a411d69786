use Rattle.pin_pool.proofs.Calls.{linked-relink, others-relink, paired-relink, place-by, rings-relink, undoes-relink, valid-relink}
use Rattle.std.proofs.Common.{◌≡◌, ℕ, ◌+◌, List, length, ap, ◌∙◌, arith, length-set}
use Rattle.pin_pool.specs.Pins.{Pins, list_of, put_after}
use Rattle.pin_pool.specs.Rings.{Rings, rings_of, IsValid, CanRelink, changed}
use Rattle.pin_pool.proofs.Totalled.{count-room, linked-room, counted-in, length-put_after}
use Rattle.pin_pool.proofs.pool_calls.Pool.relink.Goals as goal

pub relink-requires : goal.relink-requires
relink-requires c = place-by c.self.inside.store c.args.pin.0 c.args.slot c.tell_kept.ensures c.self.invariant.0 (rw (← c.self.view_is) at c.requires)

pub invariant_of-self : goal.invariant_of-self
invariant_of-self c =
    let i = c.self.inside in
    let v = i.store in
    let w = c.relink.new.self in
    let g : ℕ = c.args.slot.gate in
    let xs : List ℕ = put_after (list_of v.inputs g) c.args.slot.in_gate c.args.pin.0 in
    let valid : IsValid w = (valid-relink c.self.inside.store c.relink.new.self c.args.pin.0 c.args.slot c.tell_kept.ensures c.self.invariant.0 c.tell_kept-2.ensures (rw (← c.self.view_is) at c.requires) c.relink.ensures) in
    let size : length w.inputs ≡ length v.inputs = ap (λ (x : Pins). length x.inputs) c.relink.ensures ∙ length-set v.inputs g _ in
    let e : (rings_of w).inputs ≡ changed (rings_of v).inputs g xs = ap (λ (r : Rings). r.inputs) (rings-relink c.self.inside.store c.relink.new.self c.args.pin.0 c.args.slot c.tell_kept.ensures c.self.invariant.0 c.tell_kept-2.ensures (rw (← c.self.view_is) at c.requires) c.relink.ensures) in
    let long : length xs ≡ length (list_of v.inputs g) + 1 = length-put_after (list_of v.inputs g) c.args.slot.in_gate c.args.pin.0 in
    let can : CanRelink v c.args.pin.0 c.args.slot = rw (← c.self.view_is) at c.requires in
    (paired-relink c.self.inside.store c.relink.new.self c.args.pin.0 c.args.slot c.tell_kept.ensures c.self.invariant.0 c.tell_kept-2.ensures (rw (← c.self.view_is) at c.requires) c.relink.ensures, (tt, counted-in v w i.counts.items i.linked c.self.invariant.1.1 g can.gate xs valid size e long c.count_in.new.counts.items c.count_in.new.linked c.count_in.ensures.counts c.count_in.ensures.linked))

pub returns-clause-rings : goal.returns-clause-rings
returns-clause-rings c = rw (← c.self.view_is) (rings-relink c.self.inside.store c.relink.new.self c.args.pin.0 c.args.slot c.tell_kept.ensures c.self.invariant.0 c.tell_kept-2.ensures (rw (← c.self.view_is) at c.requires) c.relink.ensures)

pub returns-clause-undoes : goal.returns-clause-undoes
returns-clause-undoes c = rw (← c.self.view_is) (undoes-relink c.self.inside.store c.relink.new.self c.args.pin.0 c.args.slot c.tell_kept.ensures c.self.invariant.0 c.tell_kept-2.ensures (rw (← c.self.view_is) at c.requires) c.relink.ensures)

pub returns-clause-linked : goal.returns-clause-linked
returns-clause-linked c = linked-relink c.self.inside.store c.relink.new.self c.args.pin.0 c.args.slot c.tell_kept.ensures c.self.invariant.0 c.tell_kept-2.ensures (rw (← c.self.view_is) at c.requires) c.relink.ensures

pub returns-clause-others : goal.returns-clause-others
returns-clause-others c = rw (← c.self.view_is) (others-relink c.self.inside.store c.relink.new.self c.args.pin.0 c.args.slot c.tell_kept.ensures c.self.invariant.0 c.tell_kept-2.ensures (rw (← c.self.view_is) at c.requires) c.relink.ensures)

pub returns-clause-valid : goal.returns-clause-valid
returns-clause-valid c = valid-relink c.self.inside.store c.relink.new.self c.args.pin.0 c.args.slot c.tell_kept.ensures c.self.invariant.0 c.tell_kept-2.ensures (rw (← c.self.view_is) at c.requires) c.relink.ensures

pub count_in-requires-clause-few : goal.count_in-requires-clause-few
count_in-requires-clause-few c =
    let i = c.self.inside in
    let v = i.store in
    let w = c.relink.new.self in
    let g : ℕ = c.args.slot.gate in
    let xs : List ℕ = put_after (list_of v.inputs g) c.args.slot.in_gate c.args.pin.0 in
    let valid : IsValid w = (valid-relink c.self.inside.store c.relink.new.self c.args.pin.0 c.args.slot c.tell_kept.ensures c.self.invariant.0 c.tell_kept-2.ensures (rw (← c.self.view_is) at c.requires) c.relink.ensures) in
    let size : length w.inputs ≡ length v.inputs = ap (λ (x : Pins). length x.inputs) c.relink.ensures ∙ length-set v.inputs g _ in
    let e : (rings_of w).inputs ≡ changed (rings_of v).inputs g xs = ap (λ (r : Rings). r.inputs) (rings-relink c.self.inside.store c.relink.new.self c.args.pin.0 c.args.slot c.tell_kept.ensures c.self.invariant.0 c.tell_kept-2.ensures (rw (← c.self.view_is) at c.requires) c.relink.ensures) in
    let long : length xs ≡ length (list_of v.inputs g) + 1 = length-put_after (list_of v.inputs g) c.args.slot.in_gate c.args.pin.0 in
    let can : CanRelink v c.args.pin.0 c.args.slot = rw (← c.self.view_is) at c.requires in
    count-room v w i.counts.items i.linked c.self.invariant.1.1 g can.gate xs valid size e long

pub count_in-requires-clause-all : goal.count_in-requires-clause-all
count_in-requires-clause-all c =
    let i = c.self.inside in
    let v = i.store in
    let w = c.relink.new.self in
    let g : ℕ = c.args.slot.gate in
    let xs : List ℕ = put_after (list_of v.inputs g) c.args.slot.in_gate c.args.pin.0 in
    let valid : IsValid w = (valid-relink c.self.inside.store c.relink.new.self c.args.pin.0 c.args.slot c.tell_kept.ensures c.self.invariant.0 c.tell_kept-2.ensures (rw (← c.self.view_is) at c.requires) c.relink.ensures) in
    let size : length w.inputs ≡ length v.inputs = ap (λ (x : Pins). length x.inputs) c.relink.ensures ∙ length-set v.inputs g _ in
    let e : (rings_of w).inputs ≡ changed (rings_of v).inputs g xs = ap (λ (r : Rings). r.inputs) (rings-relink c.self.inside.store c.relink.new.self c.args.pin.0 c.args.slot c.tell_kept.ensures c.self.invariant.0 c.tell_kept-2.ensures (rw (← c.self.view_is) at c.requires) c.relink.ensures) in
    let long : length xs ≡ length (list_of v.inputs g) + 1 = length-put_after (list_of v.inputs g) c.args.slot.in_gate c.args.pin.0 in
    let can : CanRelink v c.args.pin.0 c.args.slot = rw (← c.self.view_is) at c.requires in
    linked-room v w i.counts.items i.linked c.self.invariant.1.1 g can.gate xs valid size e long

pub count_in-requires-clause-gate : goal.count_in-requires-clause-gate
count_in-requires-clause-gate c =
    let can : CanRelink c.self.inside.store c.args.pin.0 c.args.slot = rw (← c.self.view_is) at c.requires in
    let within = can.gate in
    let room = c.self.invariant.1.1.room in
    omega (arith, within, room)
