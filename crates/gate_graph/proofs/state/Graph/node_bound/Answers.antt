use Rattle.std.proofs.Common.{◌≡◌, ◌<◌, Some, None, sym, ◌∙◌, inl, inr}
use Rattle.std.proofs.lemmas.Bool.{cases_lt}
use Rattle.gate_net.specs.declared.Kind.TheVariants.{Zero}
use Rattle.gate_graph.specs.Circuit.{Circuit}
use Rattle.gate_graph.specs.Inner.Circuit.{IsGraph, kinds_dead}
use Rattle.gate_graph.proofs.Bounded.{bound-is}
use Rattle.gate_graph.proofs.state.Graph.node_bound.Goals as goal

pub last_live-requires : goal.last_live-requires
last_live-requires c = rw c.deref.ensures.value c.self.invariant.1.1.0

pub returns : goal.returns
returns c =
    let v : Circuit = record { kinds = c.self.inside.kinds.items; pool = c.self.inside.pool; epoch = c.self.inside.epoch } in
    let g : IsGraph v = c.self.invariant.0 in
    let above : kinds_dead v.kinds c.last_live.result = rw c.deref.ensures.value at c.last_live.ensures.above in
    let some : 0 < c.last_live.result = elim (cases_lt 0 c.last_live.result) [
      | inl lt ↦ lt
      | inr le ↦ (let both : Some Zero ≡ None = sym g.wired.shape.zero_is ∙ above 0 le in cc)
    ] in
    rw (← c.self.view_is) (bound-is v c.last_live.result above (rw c.deref.ensures.value at c.last_live.ensures.last) some)
