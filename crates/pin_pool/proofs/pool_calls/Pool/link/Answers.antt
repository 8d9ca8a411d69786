use Rattle.pin_pool.proofs.Calls.{free-by, linked-link, others-link, paired-link, rings-link, valid-link}
use Rattle.std.proofs.Common.{◌≡◌, ℕ, ◌+◌, List, [], ◌∷◌, ◌++◌, length, ap, ◌∙◌, length-append, length-set}
use Rattle.pin_pool.specs.Pins.{Pins, list_of}
use Rattle.pin_pool.specs.Rings.{Rings, rings_of, IsValid, changed}
use Rattle.pin_pool.proofs.Totalled.{count-room, linked-room, counted-in}
use Rattle.pin_pool.proofs.pool_calls.Pool.link.Goals as goal

pub link-requires-clause-loose : goal.link-requires-clause-loose
link-requires-clause-loose c = free-by c.self.inside.store c.args.pin.0 c.self.invariant.0 (rw (← c.self.view_is) at c.requires.loose)

pub invariant_of-self : goal.invariant_of-self
invariant_of-self c =
    let i = c.self.inside in
    let v = i.store in
    let w = c.link.new.self in
    let g : ℕ = c.args.gate in
    let xs : List ℕ = list_of v.inputs g ++ c.args.pin.0 ∷ [] in
    let valid : IsValid w = (valid-link c.self.inside.store c.link.new.self c.args.pin.0 c.args.gate c.args.driver c.self.invariant.0 c.tell_kept-2.ensures (rings-link c.self.inside.store c.link.new.self c.args.pin.0 c.args.gate c.args.driver c.tell_kept.ensures (rw (← c.self.view_is) at c.requires.gate) (rw (← c.self.view_is) at c.requires.driver) c.link.ensures)) in
    let size : length w.inputs ≡ length v.inputs = ap (λ (x : Pins). length x.inputs) c.link.ensures ∙ length-set v.inputs g xs in
    let e : (rings_of w).inputs ≡ changed (rings_of v).inputs g xs = ap (λ (r : Rings). r.inputs) (rings-link c.self.inside.store c.link.new.self c.args.pin.0 c.args.gate c.args.driver c.tell_kept.ensures (rw (← c.self.view_is) at c.requires.gate) (rw (← c.self.view_is) at c.requires.driver) c.link.ensures) in
    let long : length xs ≡ length (list_of v.inputs g) + 1 = length-append (list_of v.inputs g) (c.args.pin.0 ∷ []) in
    (paired-link c.self.inside.store c.link.new.self c.args.pin.0 c.args.gate c.args.driver c.self.invariant.0 c.tell_kept-2.ensures (rings-link c.self.inside.store c.link.new.self c.args.pin.0 c.args.gate c.args.driver c.tell_kept.ensures (rw (← c.self.view_is) at c.requires.gate) (rw (← c.self.view_is) at c.requires.driver) c.link.ensures), (tt, counted-in v w i.counts.items i.linked c.self.invariant.1.1 g (rw (← c.self.view_is) at c.requires.gate) xs valid size e long c.count_in.new.counts.items c.count_in.new.linked c.count_in.ensures.counts c.count_in.ensures.linked))

pub returns-clause-rings : goal.returns-clause-rings
returns-clause-rings c = rw (← c.self.view_is) ((rings-link c.self.inside.store c.link.new.self c.args.pin.0 c.args.gate c.args.driver c.tell_kept.ensures (rw (← c.self.view_is) at c.requires.gate) (rw (← c.self.view_is) at c.requires.driver) c.link.ensures))

pub returns-clause-linked : goal.returns-clause-linked
returns-clause-linked c = linked-link c.self.inside.store c.link.new.self c.args.pin.0 c.args.gate c.args.driver c.self.invariant.0 c.tell_kept-2.ensures (rings-link c.self.inside.store c.link.new.self c.args.pin.0 c.args.gate c.args.driver c.tell_kept.ensures (rw (← c.self.view_is) at c.requires.gate) (rw (← c.self.view_is) at c.requires.driver) c.link.ensures)

pub returns-clause-others : goal.returns-clause-others
returns-clause-others c = rw (← c.self.view_is) (others-link c.self.inside.store c.link.new.self c.args.pin.0 c.args.gate c.args.driver c.self.invariant.0 c.tell_kept-2.ensures (rings-link c.self.inside.store c.link.new.self c.args.pin.0 c.args.gate c.args.driver c.tell_kept.ensures (rw (← c.self.view_is) at c.requires.gate) (rw (← c.self.view_is) at c.requires.driver) c.link.ensures))

pub returns-clause-valid : goal.returns-clause-valid
returns-clause-valid c = valid-link c.self.inside.store c.link.new.self c.args.pin.0 c.args.gate c.args.driver c.self.invariant.0 c.tell_kept-2.ensures (rings-link c.self.inside.store c.link.new.self c.args.pin.0 c.args.gate c.args.driver c.tell_kept.ensures (rw (← c.self.view_is) at c.requires.gate) (rw (← c.self.view_is) at c.requires.driver) c.link.ensures)

pub count_in-requires-clause-few : goal.count_in-requires-clause-few
count_in-requires-clause-few c =
    let i = c.self.inside in
    let v = i.store in
    let w = c.link.new.self in
    let g : ℕ = c.args.gate in
    let xs : List ℕ = list_of v.inputs g ++ c.args.pin.0 ∷ [] in
    let valid : IsValid w = (valid-link c.self.inside.store c.link.new.self c.args.pin.0 c.args.gate c.args.driver c.self.invariant.0 c.tell_kept-2.ensures (rings-link c.self.inside.store c.link.new.self c.args.pin.0 c.args.gate c.args.driver c.tell_kept.ensures (rw (← c.self.view_is) at c.requires.gate) (rw (← c.self.view_is) at c.requires.driver) c.link.ensures)) in
    let size : length w.inputs ≡ length v.inputs = ap (λ (x : Pins). length x.inputs) c.link.ensures ∙ length-set v.inputs g xs in
    let e : (rings_of w).inputs ≡ changed (rings_of v).inputs g xs = ap (λ (r : Rings). r.inputs) (rings-link c.self.inside.store c.link.new.self c.args.pin.0 c.args.gate c.args.driver c.tell_kept.ensures (rw (← c.self.view_is) at c.requires.gate) (rw (← c.self.view_is) at c.requires.driver) c.link.ensures) in
    let long : length xs ≡ length (list_of v.inputs g) + 1 = length-append (list_of v.inputs g) (c.args.pin.0 ∷ []) in
    count-room v w i.counts.items i.linked c.self.invariant.1.1 g (rw (← c.self.view_is) at c.requires.gate) xs valid size e long

pub count_in-requires-clause-all : goal.count_in-requires-clause-all
count_in-requires-clause-all c =
    let i = c.self.inside in
    let v = i.store in
    let w = c.link.new.self in
    let g : ℕ = c.args.gate in
    let xs : List ℕ = list_of v.inputs g ++ c.args.pin.0 ∷ [] in
    let valid : IsValid w = (valid-link c.self.inside.store c.link.new.self c.args.pin.0 c.args.gate c.args.driver c.self.invariant.0 c.tell_kept-2.ensures (rings-link c.self.inside.store c.link.new.self c.args.pin.0 c.args.gate c.args.driver c.tell_kept.ensures (rw (← c.self.view_is) at c.requires.gate) (rw (← c.self.view_is) at c.requires.driver) c.link.ensures)) in
    let size : length w.inputs ≡ length v.inputs = ap (λ (x : Pins). length x.inputs) c.link.ensures ∙ length-set v.inputs g xs in
    let e : (rings_of w).inputs ≡ changed (rings_of v).inputs g xs = ap (λ (r : Rings). r.inputs) (rings-link c.self.inside.store c.link.new.self c.args.pin.0 c.args.gate c.args.driver c.tell_kept.ensures (rw (← c.self.view_is) at c.requires.gate) (rw (← c.self.view_is) at c.requires.driver) c.link.ensures) in
    let long : length xs ≡ length (list_of v.inputs g) + 1 = length-append (list_of v.inputs g) (c.args.pin.0 ∷ []) in
    linked-room v w i.counts.items i.linked c.self.invariant.1.1 g (rw (← c.self.view_is) at c.requires.gate) xs valid size e long
