use Rattle.std.proofs.Common.{ap, ◌≡◌, ◌∙◌, sym, List, Option, subst}
use Rattle.gate_net.specs.declared.Kind.{Kind}
use Rattle.pin_pool.specs.Rings.{rings_of, AreRings}
use Rattle.gate_graph.specs.Wirings.{free_in, kind_at}
use Rattle.gate_graph.specs.Circuit.{Circuit}
use Rattle.gate_graph.proofs.CopyGraph.{copied-graph, copied-net, copied-readers, copied-held, copied-taken, copied-pins}
use Rattle.gate_graph.proofs.state.Graph.copy.Goals as goal

pub invariant_of-result : goal.invariant_of-result
invariant_of-result c =
    let i = c.self.inside in
    let v : Circuit = record { kinds = i.kinds.items; pool = i.pool; epoch = i.epoch } in
    let w : Circuit = record { kinds = c.in_ok-kinds.kinds.items; pool = c.in_ok-pool.pool; epoch = i.epoch } in
    let kinds : w.kinds ≡ v.kinds = c.in_ok-kinds.ensures.items ∙ c.deref.ensures.value in
    let e = c.in_ok-pool.ensures in (
      copied-graph v w kinds e.inputs e.fanouts c.self.invariant.0,
      (λ m h none. c.self.invariant.1.0 m h (ap (λ (ks : List (Option Kind)). kind_at ks m) (sym kinds) ∙ none), ((λ m h. ap (λ (ks : List (Option Kind)). kind_at ks m) kinds ∙ c.self.invariant.1.1.0 m h), c.self.invariant.1.1.1 ∙ ap free_in (sym kinds))),
    )

pub returns-clause-net : goal.returns-clause-net
returns-clause-net c =
    let i = c.self.inside in
    let v : Circuit = record { kinds = i.kinds.items; pool = i.pool; epoch = i.epoch } in
    let w : Circuit = record { kinds = c.in_ok-kinds.kinds.items; pool = c.in_ok-pool.pool; epoch = i.epoch } in
    let kinds : w.kinds ≡ v.kinds = c.in_ok-kinds.ensures.items ∙ c.deref.ensures.value in
    let e = c.in_ok-pool.ensures in
    rw (← c.self.view_is) (copied-net v w kinds e.inputs e.fanouts)

pub returns-clause-fanouts : goal.returns-clause-fanouts
returns-clause-fanouts c =
    let i = c.self.inside in
    let v : Circuit = record { kinds = i.kinds.items; pool = i.pool; epoch = i.epoch } in
    let w : Circuit = record { kinds = c.in_ok-kinds.kinds.items; pool = c.in_ok-pool.pool; epoch = i.epoch } in
    let kinds : w.kinds ≡ v.kinds = c.in_ok-kinds.ensures.items ∙ c.deref.ensures.value in
    let e = c.in_ok-pool.ensures in
    rw (← c.self.view_is) (copied-readers v w kinds e.inputs e.fanouts)

pub returns-clause-held : goal.returns-clause-held
returns-clause-held c =
    let i = c.self.inside in
    let v : Circuit = record { kinds = i.kinds.items; pool = i.pool; epoch = i.epoch } in
    let w : Circuit = record { kinds = c.in_ok-kinds.kinds.items; pool = c.in_ok-pool.pool; epoch = i.epoch } in
    let kinds : w.kinds ≡ v.kinds = c.in_ok-kinds.ensures.items ∙ c.deref.ensures.value in
    let e = c.in_ok-pool.ensures in
    let rv = subst (λ (x : Circuit). AreRings (rings_of x.pool)) (sym c.self.view_is) c.tell.ensures.rings in
    copied-held v w kinds e.inputs e.fanouts rv e.valid.rings c.self.invariant.0 e.taken

pub returns-clause-taken : goal.returns-clause-taken
returns-clause-taken c =
    let i = c.self.inside in
    let v : Circuit = record { kinds = i.kinds.items; pool = i.pool; epoch = i.epoch } in
    let w : Circuit = record { kinds = c.in_ok-kinds.kinds.items; pool = c.in_ok-pool.pool; epoch = i.epoch } in
    let kinds : w.kinds ≡ v.kinds = c.in_ok-kinds.ensures.items ∙ c.deref.ensures.value in
    let e = c.in_ok-pool.ensures in
    let rv = subst (λ (x : Circuit). AreRings (rings_of x.pool)) (sym c.self.view_is) c.tell.ensures.rings in
    rw (← c.self.view_is) (copied-taken v w kinds e.inputs e.fanouts rv e.valid.rings c.self.invariant.0 e.taken)

pub returns-clause-pins : goal.returns-clause-pins
returns-clause-pins c =
    let i = c.self.inside in
    let v : Circuit = record { kinds = i.kinds.items; pool = i.pool; epoch = i.epoch } in
    let w : Circuit = record { kinds = c.in_ok-kinds.kinds.items; pool = c.in_ok-pool.pool; epoch = i.epoch } in
    let kinds : w.kinds ≡ v.kinds = c.in_ok-kinds.ensures.items ∙ c.deref.ensures.value in
    let e = c.in_ok-pool.ensures in
    let rv = subst (λ (x : Circuit). AreRings (rings_of x.pool)) (sym c.self.view_is) c.tell.ensures.rings in
    rw (← c.self.view_is) (copied-pins v w kinds e.inputs e.fanouts rv e.valid.rings c.self.invariant.0 e.taken e.pins)
