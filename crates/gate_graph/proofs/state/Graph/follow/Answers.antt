use Rattle.std.proofs.Common.{ℕ, List, [], ◌∷◌, ◌++◌, length, map, Some, sym, ap, ◌∙◌, arith, append-nil}
use Rattle.std.proofs.lemmas.List.{map-append}
use Rattle.rm_base.specs.declared.numbers.NodeId.{NodeId}
use Rattle.pin_pool.specs.declared.names.PinNo.{PinNo}
use Rattle.gate_graph.specs.Circuit.{Circuit}
use Rattle.gate_graph.specs.Inner.Circuit.{IsGraph}
use Rattle.gate_graph.proofs.KindAt.{kind-within}
use Rattle.gate_graph.proofs.Placed.{map-push, has-middle}
use Rattle.gate_graph.proofs.Following.{following-start, following-step, following-skip, following-end, step-some, at-number}
use Rattle.gate_graph.proofs.state.Graph.follow.Goals as goal

pub fanouts-pin-items-requires : goal.fanouts-pin-items-requires
fanouts-pin-items-requires c =
    let v = c.args.self.now in
    let here = at-number c.args.order.now.items c.args.next c.index.result.now c.requires.next ∙ ap (λ (n : NodeId). Some n.0) (sym c.index.ensures) in
    let live = c.requires.followed.counted.live c.args.next c.index.result.now.0 here in
    omega (arith, kind-within v.kinds c.index.result.now.0 live, c.tell.ensures.graph.room, ap (λ (u : Circuit). length u.pool.inputs) c.self.view_is)

pub loop-pin-init : goal.loop-pin-init
loop-pin-init c =
    let i = c.self.inside in
    let v : Circuit = record { kinds = i.kinds.items; pool = i.pool; epoch = i.epoch } in
    let here = at-number c.args.order.now.items c.args.next c.index.result.now c.requires.next ∙ ap (λ (n : NodeId). Some n.0) (sym c.index.ensures) in
    record {
      all = sym (c.into_iter-pin-iterator.ensures.into_iter_gives ∙ c.fanouts-pin-items.ensures.list);
      following = following-start v c.args.left.now (map (λ (n : NodeId). n.0) c.args.order.now.items) c.args.next c.index.result.now.0 (rw (← c.self.view_is) at c.requires.followed) here;
    }

pub gate_of-gate-requires : goal.gate_of-gate-requires
gate_of-gate-requires c =
    let i = c.self.inside in
    let v : Circuit = record { kinds = i.kinds.items; pool = i.pool; epoch = i.epoch } in
    let g : IsGraph v = c.self.invariant.0 in
    let r = rw (← c.self.view_is) at c.tell.ensures.rings in
    let f = c.loop-pin.invariant in
    let ys : List ℕ = map (λ (p : PinNo). p.0) c.loop-pin.yielded in
    let xs : List ℕ = map (λ (n : NodeId). n.0) c.loop-pin.order.items in
    let all = f.all ∙ ap (λ (l : List ℕ). ys ++ l) c.in-Some.ensures.steps in
    g.wired.shape.read c.index.result.now.0 c.in-Some.pin.0 (has-middle _ ys c.next.new.self c.in-Some.pin.0 all)

pub count_down-requires-clause-some : goal.count_down-requires-clause-some
count_down-requires-clause-some c =
    let i = c.self.inside in
    let v : Circuit = record { kinds = i.kinds.items; pool = i.pool; epoch = i.epoch } in
    let g : IsGraph v = c.self.invariant.0 in
    let r = rw (← c.self.view_is) at c.tell.ensures.rings in
    let f = c.loop-pin.invariant in
    let ys : List ℕ = map (λ (p : PinNo). p.0) c.loop-pin.yielded in
    let xs : List ℕ = map (λ (n : NodeId). n.0) c.loop-pin.order.items in
    let all = f.all ∙ ap (λ (l : List ℕ). ys ++ l) c.in-Some.ensures.steps in
    step-some v c.loop-pin.left xs c.args.next c.index.result.now.0 ys r g.wired.shape f.following c.in-Some.pin.0 c.gate_of-gate.result c.next.new.self all c.gate_of-gate.ensures.gate c.if-gate-ne0.true

pub loop-pin-preserved-in-Continue-1 : goal.loop-pin-preserved-in-Continue-1
loop-pin-preserved-in-Continue-1 c =
    let i = c.self.inside in
    let v : Circuit = record { kinds = i.kinds.items; pool = i.pool; epoch = i.epoch } in
    let g : IsGraph v = c.self.invariant.0 in
    let r = rw (← c.self.view_is) at c.tell.ensures.rings in
    let f = c.loop-pin.invariant in
    let ys : List ℕ = map (λ (p : PinNo). p.0) c.loop-pin.yielded in
    let xs : List ℕ = map (λ (n : NodeId). n.0) c.loop-pin.order.items in
    let all = f.all ∙ ap (λ (l : List ℕ). ys ++ l) c.in-Some.ensures.steps in
    record {
      all = all ∙ map-push (λ (p : PinNo). p.0) c.loop-pin.yielded c.in-Some.pin c.next.new.self;
      following = following-step v c.loop-pin.left xs c.args.next c.index.result.now.0 ys r g.wired.shape f.following c.in-Some.pin.0 c.gate_of-gate.result c.next.new.self all c.gate_of-gate.ensures.gate
          c.count_down.new.left (map (λ (n : NodeId). n.0) c.count_down.new.order.items) _ (map-append (λ (p : PinNo). p.0) c.loop-pin.yielded (c.in-Some.pin ∷ [])) c.if-gate-ne0.true
          c.in_ok-count_down.ensures.left c.in_ok-count_down.ensures.last (λ ne. ap (map (λ (n : NodeId). n.0)) (c.in_ok-count_down.ensures.more ne));
    }

pub loop-pin-preserved : goal.loop-pin-preserved
loop-pin-preserved c =
    let i = c.self.inside in
    let v : Circuit = record { kinds = i.kinds.items; pool = i.pool; epoch = i.epoch } in
    let g : IsGraph v = c.self.invariant.0 in
    let r = rw (← c.self.view_is) at c.tell.ensures.rings in
    let f = c.loop-pin.invariant in
    let ys : List ℕ = map (λ (p : PinNo). p.0) c.loop-pin.yielded in
    let xs : List ℕ = map (λ (n : NodeId). n.0) c.loop-pin.order.items in
    let all = f.all ∙ ap (λ (l : List ℕ). ys ++ l) c.in-Some.ensures.steps in
    record {
      all = all ∙ map-push (λ (p : PinNo). p.0) c.loop-pin.yielded c.in-Some.pin c.next.new.self;
      following = following-skip v c.loop-pin.left xs c.args.next c.index.result.now.0 ys r g.wired.shape f.following c.in-Some.pin.0 c.gate_of-gate.result c.next.new.self all c.gate_of-gate.ensures.gate
          _ (map-append (λ (p : PinNo). p.0) c.loop-pin.yielded (c.in-Some.pin ∷ [])) c.if-gate-ne0.false;
    }

pub returns : goal.returns
returns c =
    let i = c.self.inside in
    let v : Circuit = record { kinds = i.kinds.items; pool = i.pool; epoch = i.epoch } in
    let g : IsGraph v = c.self.invariant.0 in
    let r = rw (← c.self.view_is) at c.tell.ensures.rings in
    let f = c.loop-pin.invariant in
    let ys : List ℕ = map (λ (p : PinNo). p.0) c.loop-pin.yielded in
    let xs : List ℕ = map (λ (n : NodeId). n.0) c.loop-pin.order.items in
    let all = f.all ∙ ap (λ (l : List ℕ). ys ++ l) c.in-None.ensures.steps.0 ∙ append-nil ys in
    rw (← c.self.view_is) (following-end v c.loop-pin.left xs c.args.next c.index.result.now.0 ys r f.following (sym all))
