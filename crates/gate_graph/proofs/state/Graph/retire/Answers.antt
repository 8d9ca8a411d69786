use Rattle.std.proofs.Common.{arith, refl, List, [], sym, ap, ◌∙◌, length, None, Option, ◌≡◌, ◌<◌, inl, subst}
use Rattle.std.proofs.lemmas.List.{get_or_read}
use Rattle.gate_net.specs.declared.Kind.{Kind}
use Rattle.pin_pool.specs.Pins.{list_of}
use Rattle.pin_pool.specs.Rings.{AreRings, rings_of}
use Rattle.gate_graph.specs.Wirings.{kind_at, free_in}
use Rattle.gate_graph.specs.Circuit.{Circuit}
use Rattle.gate_graph.specs.Inner.Circuit.{IsGraph}
use Rattle.gate_graph.proofs.KindAt.{kind-within, live-set}
use Rattle.gate_graph.proofs.LeadOns.{live-in}
use Rattle.gate_graph.proofs.Pinned.{map-none}
use Rattle.gate_graph.proofs.Retiring.{emptied-start, emptied-step, retires, retire-count, gate-goes, gate-not_zero, none-first, some-first}
use Rattle.std.specs.FinSet as finset
use Rattle.gate_graph.proofs.Numbers.{bit-some}
use Rattle.gate_graph.proofs.HeldPins.{holds-by}
use Rattle.pin_pool.proofs.Public.{has-there, linked-less}
use Rattle.gate_graph.specs.Holds.{held}
use Rattle.gate_graph.specs.declared.undo_list.Undo.{Undo}
use Rattle.pin_pool.specs.Rings.{Rings}
use Rattle.gate_graph.proofs.state.Graph.retire.Goals as goal

pub nth_pin-requires : goal.nth_pin-requires
nth_pin-requires c =
    let v = c.args.self.now in
    let graph : IsGraph v = rw c.self.view_is at c.self.invariant.0 in
    let i = c.loop-pin.invariant in
    let g = c.args.gate.0 in
    let w : Circuit = record { kinds = c.loop-pin.self-inside.kinds.items; pool = c.loop-pin.self-inside.pool; epoch = c.loop-pin.self-inside.epoch } in
    let count = retire-count v g graph.wired.shape c.requires.gate in
    let live = live-in v g (c.requires.gate.0, c.requires.gate.1.0) in
    let within : g < length v.kinds = kind-within v.kinds g live in
    omega (arith, within, graph.room, i.nodes)

pub unlink_pin-slot-requires-clause-gate : goal.unlink_pin-slot-requires-clause-gate
unlink_pin-slot-requires-clause-gate c =
    let v = c.args.self.now in
    let graph : IsGraph v = rw c.self.view_is at c.self.invariant.0 in
    let i = c.loop-pin.invariant in
    let g = c.args.gate.0 in
    let w : Circuit = record { kinds = c.loop-pin.self-inside.kinds.items; pool = c.loop-pin.self-inside.pool; epoch = c.loop-pin.self-inside.epoch } in
    let count = retire-count v g graph.wired.shape c.requires.gate in
    let live = live-in v g (c.requires.gate.0, c.requires.gate.1.0) in
    let within : g < length v.kinds = kind-within v.kinds g live in
    let at = has-there (list_of w.pool.inputs g) 0 c.in-Some.pin.0 (sym c.in-Some.ensures) in
    let some = some-first (list_of w.pool.inputs g) c.in-Some.pin.0 at in
    (g, at)

pub unlink_pin-slot-requires-clause-driver : goal.unlink_pin-slot-requires-clause-driver
unlink_pin-slot-requires-clause-driver c =
    let v = c.args.self.now in
    let graph : IsGraph v = rw c.self.view_is at c.self.invariant.0 in
    let i = c.loop-pin.invariant in
    let g = c.args.gate.0 in
    let w : Circuit = record { kinds = c.loop-pin.self-inside.kinds.items; pool = c.loop-pin.self-inside.pool; epoch = c.loop-pin.self-inside.epoch } in
    let count = retire-count v g graph.wired.shape c.requires.gate in
    let live = live-in v g (c.requires.gate.0, c.requires.gate.1.0) in
    let within : g < length v.kinds = kind-within v.kinds g live in
    let at = has-there (list_of w.pool.inputs g) 0 c.in-Some.pin.0 (sym c.in-Some.ensures) in
    let some = some-first (list_of w.pool.inputs g) c.in-Some.pin.0 at in
    i.emptied.driven g c.in-Some.pin.0 at

pub push-requires : goal.push-requires
push-requires c =
    let v = c.args.self.now in
    let graph : IsGraph v = rw c.self.view_is at c.self.invariant.0 in
    let i = c.loop-pin.invariant in
    let g = c.args.gate.0 in
    let w : Circuit = record { kinds = c.loop-pin.self-inside.kinds.items; pool = c.loop-pin.self-inside.pool; epoch = c.loop-pin.self-inside.epoch } in
    let count = retire-count v g graph.wired.shape c.requires.gate in
    let live = live-in v g (c.requires.gate.0, c.requires.gate.1.0) in
    let within : g < length v.kinds = kind-within v.kinds g live in
    let at = has-there (list_of w.pool.inputs g) 0 c.in-Some.pin.0 (sym c.in-Some.ensures) in
    let some = some-first (list_of w.pool.inputs g) c.in-Some.pin.0 at in
    omega (arith, count, some, i.entries, c.requires.entries)

pub loop-pin-smaller : goal.loop-pin-smaller
loop-pin-smaller c =
    let v = c.args.self.now in
    let graph : IsGraph v = rw c.self.view_is at c.self.invariant.0 in
    let i = c.loop-pin.invariant in
    let g = c.args.gate.0 in
    let w : Circuit = record { kinds = c.loop-pin.self-inside.kinds.items; pool = c.loop-pin.self-inside.pool; epoch = c.loop-pin.self-inside.epoch } in
    let count = retire-count v g graph.wired.shape c.requires.gate in
    let live = live-in v g (c.requires.gate.0, c.requires.gate.1.0) in
    let within : g < length v.kinds = kind-within v.kinds g live in
    let at = has-there (list_of w.pool.inputs g) 0 c.in-Some.pin.0 (sym c.in-Some.ensures) in
    let some = some-first (list_of w.pool.inputs g) c.in-Some.pin.0 at in
    let u : Circuit = record { kinds = c.loop-pin.self-inside.kinds.items; pool = c.unlink_pin-slot.new.pool; epoch = c.loop-pin.self-inside.epoch } in
    let step = emptied-step v w u g c.in-Some.pin c.unlink_pin-slot.result c.args.undos.now.entries c.loop-pin.undos.entries graph.wired (gate-not_zero v g graph.wired.shape c.requires.gate) i.emptied refl c.unlink_pin-slot.ensures.rings c.tell_rings-in-Some.ensures.rings at c.unlink_pin-slot.ensures.stood in
    omega (arith, step.1)

pub loop-pin-preserved : goal.loop-pin-preserved
loop-pin-preserved c =
    let v = c.args.self.now in
    let graph : IsGraph v = rw c.self.view_is at c.self.invariant.0 in
    let i = c.loop-pin.invariant in
    let g = c.args.gate.0 in
    let w : Circuit = record { kinds = c.loop-pin.self-inside.kinds.items; pool = c.loop-pin.self-inside.pool; epoch = c.loop-pin.self-inside.epoch } in
    let count = retire-count v g graph.wired.shape c.requires.gate in
    let live = live-in v g (c.requires.gate.0, c.requires.gate.1.0) in
    let within : g < length v.kinds = kind-within v.kinds g live in
    let at = has-there (list_of w.pool.inputs g) 0 c.in-Some.pin.0 (sym c.in-Some.ensures) in
    let some = some-first (list_of w.pool.inputs g) c.in-Some.pin.0 at in
    let u : Circuit = record { kinds = c.loop-pin.self-inside.kinds.items; pool = c.unlink_pin-slot.new.pool; epoch = c.loop-pin.self-inside.epoch } in
    let step = emptied-step v w u g c.in-Some.pin c.unlink_pin-slot.result c.args.undos.now.entries c.loop-pin.undos.entries graph.wired (gate-not_zero v g graph.wired.shape c.requires.gate) i.emptied refl c.unlink_pin-slot.ensures.rings c.tell_rings-in-Some.ensures.rings at c.unlink_pin-slot.ensures.stood in
    record {
      emptied = rw c.push.ensures.entries step.0;
      entries = omega (arith, step.1, i.entries, c.push.ensures.spare);
      held_pins = omega (arith, i.held_pins, linked-less w.pool u.pool c.unlink_pin-slot.ensures.nodes c.in-Some.pin.0 i.emptied.rings (ap (λ (r : Rings). r.inputs) c.unlink_pin-slot.ensures.rings) (g, at), ap (λ (l : List Undo). length (held l)) c.push.ensures.entries);
      nodes = c.unlink_pin-slot.ensures.nodes ∙ i.nodes;
      spare = c.unlink_pin-slot.ensures.spare ∙ i.spare;
      taken = c.unlink_pin-slot.ensures.taken ∙ i.taken;
      free = i.free;
      live = i.live;
      dead = i.dead;
      epoch = i.epoch;
      same = i.same;
      together = omega (arith, i.together, ap length c.push.ensures.entries, c.push.ensures.spare);
    }

pub index-requires : goal.index-requires
index-requires c =
    let v = c.args.self.now in
    let graph : IsGraph v = rw c.self.view_is at c.self.invariant.0 in
    let i = c.loop-pin.invariant in
    let g = c.args.gate.0 in
    let w : Circuit = record { kinds = c.loop-pin.self-inside.kinds.items; pool = c.loop-pin.self-inside.pool; epoch = c.loop-pin.self-inside.epoch } in
    let count = retire-count v g graph.wired.shape c.requires.gate in
    let live = live-in v g (c.requires.gate.0, c.requires.gate.1.0) in
    let within : g < length v.kinds = kind-within v.kinds g live in
    omega (arith, within, ap length i.same, c.loop-pin.self-inside.kinds.ok.0)

pub set_kind-requires-clause-node : goal.set_kind-requires-clause-node
set_kind-requires-clause-node c =
    let v = c.args.self.now in
    let graph : IsGraph v = rw c.self.view_is at c.self.invariant.0 in
    let i = c.loop-pin.invariant in
    let g = c.args.gate.0 in
    let w : Circuit = record { kinds = c.loop-pin.self-inside.kinds.items; pool = c.loop-pin.self-inside.pool; epoch = c.loop-pin.self-inside.epoch } in
    let count = retire-count v g graph.wired.shape c.requires.gate in
    let live = live-in v g (c.requires.gate.0, c.requires.gate.1.0) in
    let within : g < length v.kinds = kind-within v.kinds g live in
    omega (arith, within, ap length i.same)

pub push-requires-in-Some-index : goal.push-requires-in-Some-index
push-requires-in-Some-index c =
    let v = c.args.self.now in
    let graph : IsGraph v = rw c.self.view_is at c.self.invariant.0 in
    let i = c.loop-pin.invariant in
    let g = c.args.gate.0 in
    let w : Circuit = record { kinds = c.loop-pin.self-inside.kinds.items; pool = c.loop-pin.self-inside.pool; epoch = c.loop-pin.self-inside.epoch } in
    let count = retire-count v g graph.wired.shape c.requires.gate in
    let live = live-in v g (c.requires.gate.0, c.requires.gate.1.0) in
    let within : g < length v.kinds = kind-within v.kinds g live in
    let none : list_of w.pool.inputs g ≡ [] = none-first (list_of w.pool.inputs g) (sym c.nth_pin.ensures ∙ map-none _ c.nth_pin.result c.in_default.not-Some) in
    omega (arith, count, ap length none, i.entries, c.requires.entries)

pub unreachable-requires : goal.unreachable-requires
unreachable-requires c =
    let v = c.args.self.now in
    let graph : IsGraph v = rw c.self.view_is at c.self.invariant.0 in
    let i = c.loop-pin.invariant in
    let g = c.args.gate.0 in
    let w : Circuit = record { kinds = c.loop-pin.self-inside.kinds.items; pool = c.loop-pin.self-inside.pool; epoch = c.loop-pin.self-inside.epoch } in
    let count = retire-count v g graph.wired.shape c.requires.gate in
    let live = live-in v g (c.requires.gate.0, c.requires.gate.1.0) in
    let within : g < length v.kinds = kind-within v.kinds g live in
    let inside : g < length w.kinds = omega (arith, within, ap length i.same) in
    let kind : kind_at w.kinds g ≡ c.index.result.now = sym (get_or_read w.kinds g c.index.result.now inside c.index.ensures None) in
    live (ap (λ (ks : List (Option Kind)). kind_at ks g) (sym i.same) ∙ kind ∙ c.in-None.is)

pub invariant_of-self : goal.invariant_of-self
invariant_of-self c =
    let v = c.args.self.now in
    let graph : IsGraph v = rw c.self.view_is at c.self.invariant.0 in
    let i = c.loop-pin.invariant in
    let g = c.args.gate.0 in
    let w : Circuit = record { kinds = c.loop-pin.self-inside.kinds.items; pool = c.loop-pin.self-inside.pool; epoch = c.loop-pin.self-inside.epoch } in
    let count = retire-count v g graph.wired.shape c.requires.gate in
    let live = live-in v g (c.requires.gate.0, c.requires.gate.1.0) in
    let within : g < length v.kinds = kind-within v.kinds g live in
    let none : list_of w.pool.inputs g ≡ [] = none-first (list_of w.pool.inputs g) (sym c.nth_pin.ensures ∙ map-none _ c.nth_pin.result c.in_default.not-Some) in
    let inside : g < length w.kinds = omega (arith, within, ap length i.same) in
    let kind : kind_at w.kinds g ≡ c.index.result.now = sym (get_or_read w.kinds g c.index.result.now inside c.index.ensures None) in
    let u : Circuit = record { kinds = c.set_kind.new.kinds.items; pool = w.pool; epoch = w.epoch } in
    let a = retires v w u g c.in-Some-index.kind c.args.undos.now.entries c.loop-pin.undos.entries (subst (λ (x : Circuit). AreRings (rings_of x.pool)) c.self.view_is c.tell_rings.ensures.rings) graph.wired i.emptied none c.requires.gate (kind ∙ c.in-Some-index.is) c.requires.unread (c.set_kind.ensures.kinds w.pool) c.set_kind.ensures.len in (
      record { wired = a.wired; room = omega (arith, graph.room, ap length i.same, i.nodes, c.set_kind.ensures.len); few = omega (arith, graph.few, ap length i.same, c.set_kind.ensures.len) },
      (live-set w.kinds u.kinds w.pool g _ c.loop-pin.self-inside.least c.min-self-inside.result c.set_kind.ensures.kinds i.live (omega (arith, c.min-self-inside.ensures)) (inl (omega (arith, c.min-self-inside.ensures))), (c.set_kind.ensures.dead, c.set_kind.ensures.free)),
    )

pub returns-clause-net : goal.returns-clause-net
returns-clause-net c =
    let v = c.args.self.now in
    let graph : IsGraph v = rw c.self.view_is at c.self.invariant.0 in
    let i = c.loop-pin.invariant in
    let g = c.args.gate.0 in
    let w : Circuit = record { kinds = c.loop-pin.self-inside.kinds.items; pool = c.loop-pin.self-inside.pool; epoch = c.loop-pin.self-inside.epoch } in
    let count = retire-count v g graph.wired.shape c.requires.gate in
    let live = live-in v g (c.requires.gate.0, c.requires.gate.1.0) in
    let within : g < length v.kinds = kind-within v.kinds g live in
    let none : list_of w.pool.inputs g ≡ [] = none-first (list_of w.pool.inputs g) (sym c.nth_pin.ensures ∙ map-none _ c.nth_pin.result c.in_default.not-Some) in
    let inside : g < length w.kinds = omega (arith, within, ap length i.same) in
    let kind : kind_at w.kinds g ≡ c.index.result.now = sym (get_or_read w.kinds g c.index.result.now inside c.index.ensures None) in
    let u : Circuit = record { kinds = c.set_kind.new.kinds.items; pool = w.pool; epoch = w.epoch } in
    let a = retires v w u g c.in-Some-index.kind c.args.undos.now.entries c.loop-pin.undos.entries (subst (λ (x : Circuit). AreRings (rings_of x.pool)) c.self.view_is c.tell_rings.ensures.rings) graph.wired i.emptied none c.requires.gate (kind ∙ c.in-Some-index.is) c.requires.unread (c.set_kind.ensures.kinds w.pool) c.set_kind.ensures.len in
    a.net

pub returns-clause-readers : goal.returns-clause-readers
returns-clause-readers c =
    let v = c.args.self.now in
    let graph : IsGraph v = rw c.self.view_is at c.self.invariant.0 in
    let i = c.loop-pin.invariant in
    let g = c.args.gate.0 in
    let w : Circuit = record { kinds = c.loop-pin.self-inside.kinds.items; pool = c.loop-pin.self-inside.pool; epoch = c.loop-pin.self-inside.epoch } in
    let count = retire-count v g graph.wired.shape c.requires.gate in
    let live = live-in v g (c.requires.gate.0, c.requires.gate.1.0) in
    let within : g < length v.kinds = kind-within v.kinds g live in
    let none : list_of w.pool.inputs g ≡ [] = none-first (list_of w.pool.inputs g) (sym c.nth_pin.ensures ∙ map-none _ c.nth_pin.result c.in_default.not-Some) in
    let inside : g < length w.kinds = omega (arith, within, ap length i.same) in
    let kind : kind_at w.kinds g ≡ c.index.result.now = sym (get_or_read w.kinds g c.index.result.now inside c.index.ensures None) in
    let u : Circuit = record { kinds = c.set_kind.new.kinds.items; pool = w.pool; epoch = w.epoch } in
    gate-goes v w u g c.args.undos.now.entries c.loop-pin.undos.entries i.emptied none refl

pub returns-clause-undos : goal.returns-clause-undos
returns-clause-undos c =
    let v = c.args.self.now in
    let graph : IsGraph v = rw c.self.view_is at c.self.invariant.0 in
    let i = c.loop-pin.invariant in
    let g = c.args.gate.0 in
    let w : Circuit = record { kinds = c.loop-pin.self-inside.kinds.items; pool = c.loop-pin.self-inside.pool; epoch = c.loop-pin.self-inside.epoch } in
    let count = retire-count v g graph.wired.shape c.requires.gate in
    let live = live-in v g (c.requires.gate.0, c.requires.gate.1.0) in
    let within : g < length v.kinds = kind-within v.kinds g live in
    let none : list_of w.pool.inputs g ≡ [] = none-first (list_of w.pool.inputs g) (sym c.nth_pin.ensures ∙ map-none _ c.nth_pin.result c.in_default.not-Some) in
    let inside : g < length w.kinds = omega (arith, within, ap length i.same) in
    let kind : kind_at w.kinds g ≡ c.index.result.now = sym (get_or_read w.kinds g c.index.result.now inside c.index.ensures None) in
    let u : Circuit = record { kinds = c.set_kind.new.kinds.items; pool = w.pool; epoch = w.epoch } in
    let a = retires v w u g c.in-Some-index.kind c.args.undos.now.entries c.loop-pin.undos.entries (subst (λ (x : Circuit). AreRings (rings_of x.pool)) c.self.view_is c.tell_rings.ensures.rings) graph.wired i.emptied none c.requires.gate (kind ∙ c.in-Some-index.is) c.requires.unread (c.set_kind.ensures.kinds w.pool) c.set_kind.ensures.len in
    rw c.push-in-Some-index.ensures.entries a.undos

pub returns-clause-entries : goal.returns-clause-entries
returns-clause-entries c =
    let v = c.args.self.now in
    let graph : IsGraph v = rw c.self.view_is at c.self.invariant.0 in
    let i = c.loop-pin.invariant in
    let g = c.args.gate.0 in
    let w : Circuit = record { kinds = c.loop-pin.self-inside.kinds.items; pool = c.loop-pin.self-inside.pool; epoch = c.loop-pin.self-inside.epoch } in
    let count = retire-count v g graph.wired.shape c.requires.gate in
    let live = live-in v g (c.requires.gate.0, c.requires.gate.1.0) in
    let within : g < length v.kinds = kind-within v.kinds g live in
    let none : list_of w.pool.inputs g ≡ [] = none-first (list_of w.pool.inputs g) (sym c.nth_pin.ensures ∙ map-none _ c.nth_pin.result c.in_default.not-Some) in
    omega (arith, count, ap length none, i.entries, c.push-in-Some-index.ensures.spare)

pub loop-pin-init : goal.loop-pin-init
loop-pin-init c =
    let o : Circuit = record { kinds = c.self.inside.kinds.items; pool = c.self.inside.pool; epoch = c.self.inside.epoch } in
    rw (← c.self.view_is) (record {
      emptied = emptied-start o c.args.gate.0 c.args.undos.now.entries c.tell_rings.ensures.rings c.self.invariant.0.wired;
      entries = refl;
      held_pins = refl;
      nodes = refl;
      spare = refl;
      taken = refl;
      free = c.self.invariant.1.1.1;
      live = c.self.invariant.1.0;
      dead = c.self.invariant.1.1.0;
      epoch = refl;
      same = refl;
      together = refl;
    })

pub returns-clause-uses : goal.returns-clause-uses
returns-clause-uses c =
    let v = c.args.self.now in
    let graph : IsGraph v = rw c.self.view_is at c.self.invariant.0 in
    let i = c.loop-pin.invariant in
    let g = c.args.gate.0 in
    let w : Circuit = record { kinds = c.loop-pin.self-inside.kinds.items; pool = c.loop-pin.self-inside.pool; epoch = c.loop-pin.self-inside.epoch } in
    let count = retire-count v g graph.wired.shape c.requires.gate in
    let live = live-in v g (c.requires.gate.0, c.requires.gate.1.0) in
    let within : g < length v.kinds = kind-within v.kinds g live in
    let inside : g < length w.kinds = omega (arith, within, ap length i.same) in
    let kind : kind_at w.kinds g ≡ c.index.result.now = sym (get_or_read w.kinds g c.index.result.now inside c.index.ensures None) in
    record {
      pins_left = i.spare;
      nodes_left = omega (arith, c.set_kind.ensures.count, bit-some (kind_at w.kinds g) _ (kind ∙ c.in-Some-index.is), ap free_in i.same);
      pins_more = ap finset.len i.taken;
    }

pub set_kind-requires-clause-few : goal.set_kind-requires-clause-few
set_kind-requires-clause-few c =
    let v = c.args.self.now in
    let graph : IsGraph v = rw c.self.view_is at c.self.invariant.0 in
    let i = c.loop-pin.invariant in
    let g = c.args.gate.0 in
    let w : Circuit = record { kinds = c.loop-pin.self-inside.kinds.items; pool = c.loop-pin.self-inside.pool; epoch = c.loop-pin.self-inside.epoch } in
    let count = retire-count v g graph.wired.shape c.requires.gate in
    let live = live-in v g (c.requires.gate.0, c.requires.gate.1.0) in
    let within : g < length v.kinds = kind-within v.kinds g live in
    omega (arith, graph.few, ap length i.same)

pub returns-clause-held : goal.returns-clause-held
returns-clause-held c =
    let v = c.args.self.now in
    let graph : IsGraph v = rw c.self.view_is at c.self.invariant.0 in
    let i = c.loop-pin.invariant in
    let g = c.args.gate.0 in
    let w : Circuit = record { kinds = c.loop-pin.self-inside.kinds.items; pool = c.loop-pin.self-inside.pool; epoch = c.loop-pin.self-inside.epoch } in
    let count = retire-count v g graph.wired.shape c.requires.gate in
    let live = live-in v g (c.requires.gate.0, c.requires.gate.1.0) in
    let within : g < length v.kinds = kind-within v.kinds g live in
    let none : list_of w.pool.inputs g ≡ [] = none-first (list_of w.pool.inputs g) (sym c.nth_pin.ensures ∙ map-none _ c.nth_pin.result c.in_default.not-Some) in
    let inside : g < length w.kinds = omega (arith, within, ap length i.same) in
    let kind : kind_at w.kinds g ≡ c.index.result.now = sym (get_or_read w.kinds g c.index.result.now inside c.index.ensures None) in
    let u : Circuit = record { kinds = c.set_kind.new.kinds.items; pool = w.pool; epoch = w.epoch } in
    let a = retires v w u g c.in-Some-index.kind c.args.undos.now.entries c.loop-pin.undos.entries (subst (λ (x : Circuit). AreRings (rings_of x.pool)) c.self.view_is c.tell_rings.ensures.rings) graph.wired i.emptied none c.requires.gate (kind ∙ c.in-Some-index.is) c.requires.unread (c.set_kind.ensures.kinds w.pool) c.set_kind.ensures.len in
    let gu : IsGraph u = record { wired = a.wired; room = omega (arith, graph.room, ap length i.same, i.nodes, c.set_kind.ensures.len); few = omega (arith, graph.few, ap length i.same, c.set_kind.ensures.len) } in
    let count = ap (λ (l : List Undo). length (held l)) c.push-in-Some-index.ensures.entries in
    holds-by v u c.args.undos.now.entries c.push-in-Some-index.new.self.entries (subst (λ (x : Circuit). AreRings (rings_of x.pool)) c.self.view_is c.tell_rings.ensures.rings) i.emptied.rings graph gu (omega (arith, count, i.held_pins, ap finset.len i.taken))

pub returns-clause-together : goal.returns-clause-together
returns-clause-together c = omega (arith, ap length c.push-in-Some-index.ensures.entries, c.push-in-Some-index.ensures.spare, c.loop-pin.invariant.together)
