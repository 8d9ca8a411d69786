use Rattle.std.proofs.Common.{[], arith, refl, subst, sym, ap, ◌∙◌, ◌≡◌, List, Option, ℕ}
use Rattle.pin_pool.specs.Rings.{Rings}
use Rattle.gate_net.specs.declared.Kind.{Kind}
use Rattle.gate_graph.specs.Inner.Holds.{AreHeld}
use Rattle.gate_graph.specs.Wirings.{kind_at, free_in, wiring_of}
use Rattle.gate_graph.specs.Circuit.{Circuit}
use Rattle.gate_graph.specs.Inner.Circuit.{IsGraph}
use Rattle.gate_graph.proofs.Kept.{graph-kept, net-kept, readers-kept}
use Rattle.gate_graph.proofs.Holding.{are-held, held-step, held-same, held-here, held-count}
use Rattle.std.specs.FinSet as finset
use Rattle.pin_pool.proofs.Public.{len-one_less}
use Rattle.std.proofs.Common.{length, ◌≡◌}
use Rattle.gate_graph.specs.Holds.{held, held_by}
use Rattle.gate_graph.specs.declared.undo_list.Undo.{Undo}
use Rattle.gate_graph.proofs.HeldPins.{held-are}
use Rattle.pin_pool.proofs.Public.{linked-same}
use Rattle.gate_graph.proofs.state.Graph.keep.Goals as goal

pub loop-entry-init : goal.loop-entry-init
loop-entry-init c =
    rw (← c.self.view_is) (record {
      kinds = refl;
      inputs = refl;
      fanouts = refl;
      nodes = refl;
      held_pins = are-held _ c.args.undos.now.entries (rw (← c.self.view_is) at c.requires.back);
      spare = refl;
      taken = refl;
      free = refl;
      places = refl;
      epoch = refl;
      least = refl;
      bound = refl;
    })

pub give_back-requires : goal.give_back-requires
give_back-requires c =
    held-here c.loop-entry.self-inside.kinds.items c.loop-entry.self-inside.pool c.in-Some-held_pin.pin c.in-Some.entry c.loop-entry.undos.entries c.pop.new.self.entries c.in-Some.ensures.0 c.in-Some-held_pin.ensures.some c.loop-entry.invariant.held_pins

pub loop-entry-preserved-in-Some-held_pin : goal.loop-entry-preserved-in-Some-held_pin
loop-entry-preserved-in-Some-held_pin c =
    let i = c.loop-entry.invariant in
    let e = c.give_back.ensures in
    record {
      kinds = i.kinds;
      inputs = ap (λ (r : Rings). r.inputs) e.rings ∙ i.inputs;
      fanouts = ap (λ (r : Rings). r.fanouts) e.rings ∙ i.fanouts;
      nodes = e.nodes ∙ i.nodes;
      held_pins = held-step c.loop-entry.self-inside.kinds.items c.loop-entry.self-inside.pool c.give_back.new.self c.in-Some-held_pin.pin c.in-Some.entry c.loop-entry.undos.entries c.pop.new.self.entries c.in-Some.ensures.0 c.in-Some-held_pin.ensures.some i.held_pins e.rings;
      spare = omega (arith, i.spare, e.spare, held-count c.in-Some-held_pin.pin c.in-Some.entry c.loop-entry.undos.entries c.pop.new.self.entries c.in-Some.ensures.0 c.in-Some-held_pin.ensures.some);
      taken = omega (arith, i.taken, ap finset.len e.taken, len-one_less c.loop-entry.self-inside.pool.taken c.in-Some-held_pin.pin.0 (held-here c.loop-entry.self-inside.kinds.items c.loop-entry.self-inside.pool c.in-Some-held_pin.pin c.in-Some.entry c.loop-entry.undos.entries c.pop.new.self.entries c.in-Some.ensures.0 c.in-Some-held_pin.ensures.some i.held_pins).0, held-count c.in-Some-held_pin.pin c.in-Some.entry c.loop-entry.undos.entries c.pop.new.self.entries c.in-Some.ensures.0 c.in-Some-held_pin.ensures.some);
      free = i.free;
      places = omega (arith, i.places, c.in-Some.ensures.1, ap (λ (l : List Undo). length l) c.in-Some.ensures.0);
      epoch = i.epoch;
      least = i.least;
      bound = i.bound;
    }

pub loop-entry-preserved : goal.loop-entry-preserved
loop-entry-preserved c =
    let i = c.loop-entry.invariant in
    let none : held_by c.in-Some.entry ≡ [] = c.held_pin.ensures.none c.in_default-held_pin.is in
    let same : held c.loop-entry.undos.entries ≡ held c.pop.new.self.entries = held-same c.in-Some.entry c.loop-entry.undos.entries c.pop.new.self.entries c.in-Some.ensures.0 none in
    record {
      kinds = i.kinds;
      inputs = i.inputs;
      fanouts = i.fanouts;
      nodes = i.nodes;
      held_pins = subst (λ (l : List ℕ). AreHeld (wiring_of c.loop-entry.self-inside.kinds.items c.loop-entry.self-inside.pool) l) same i.held_pins;
      spare = omega (arith, i.spare, ap (λ (l : List ℕ). length l) same);
      taken = omega (arith, i.taken, ap (λ (l : List ℕ). length l) same);
      free = i.free;
      places = omega (arith, i.places, c.in-Some.ensures.1, ap (λ (l : List Undo). length l) c.in-Some.ensures.0);
      epoch = i.epoch;
      least = i.least;
      bound = i.bound;
    }

pub invariant_of-self : goal.invariant_of-self
invariant_of-self c =
    let i = c.loop-entry.invariant in
    let graph : IsGraph c.args.self.now = rw c.self.view_is at c.self.invariant.0 in
    let kinds : c.loop-entry.self-inside.kinds.items ≡ c.self.inside.kinds.items = i.kinds ∙ sym (ap (λ (u : Circuit). u.kinds) c.self.view_is) in (
      graph-kept _ c.args.self.now i.kinds i.inputs i.fanouts i.nodes graph,
      (λ m h none. c.self.invariant.1.0 m (omega (arith, h, i.least)) (ap (λ (ks : List (Option Kind)). kind_at ks m) (sym kinds) ∙ none), ((λ m h. ap (λ (ks : List (Option Kind)). kind_at ks m) kinds ∙ c.self.invariant.1.1.0 m (omega (arith, h, i.bound))), i.free ∙ c.self.invariant.1.1.1 ∙ ap free_in (sym kinds))),
    )

pub returns-clause-net : goal.returns-clause-net
returns-clause-net c = let i = c.loop-entry.invariant in net-kept _ c.args.self.now i.kinds i.inputs i.fanouts

pub returns-clause-fanouts : goal.returns-clause-fanouts
returns-clause-fanouts c = let i = c.loop-entry.invariant in readers-kept _ c.args.self.now i.kinds i.inputs i.fanouts

pub returns-clause-held : goal.returns-clause-held
returns-clause-held c =
    let i = c.loop-entry.invariant in
    let s = c.loop-entry.self-inside in
    let v = c.args.self.now in
    let w : Circuit = record { kinds = s.kinds.items; pool = s.pool; epoch = c.saturating_add-self-inside.result } in
    let gw : IsGraph w = graph-kept w v i.kinds i.inputs i.fanouts i.nodes c.tell.ensures.graph in
    let none = ap (λ (l : List Undo). length (held l)) c.in_default.ensures.0 in
    omega (arith, held-are v c.tell.ensures.rings c.tell.ensures.graph, held-are w c.tell_rings.ensures.rings gw, linked-same v.pool w.pool i.nodes i.inputs, i.taken, none)
