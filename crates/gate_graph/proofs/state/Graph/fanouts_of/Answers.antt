use Rattle.std.proofs.Common.{◌≡◌, ◌<◌, ℕ, List, length, map, sym, ap, ◌∙◌, true, arith}
use Rattle.pin_pool.specs.Ring.{has}
use Rattle.pin_pool.specs.Pins.{list_of}
use Rattle.gate_graph.specs.Circuit.{Circuit, reader, without_observed}
use Rattle.gate_graph.specs.Inner.Circuit.{IsGraph}
use Rattle.gate_graph.proofs.KindAt.{kind-within}
use Rattle.gate_graph.proofs.LeadOns.{live-in}
use Rattle.gate_graph.proofs.Placed.{fanouts-are}
use Rattle.gate_graph.proofs.state.Graph.fanouts_of.Goals as goal

pub fanouts-requires : goal.fanouts-requires
fanouts-requires c =
    let v = c.args.self.now in
    let g = c.tell.ensures.graph in
    let less : c.args.node.0 < length v.pool.inputs = omega (arith, kind-within v.kinds c.args.node.0 (live-in v c.args.node.0 c.requires), g.room) in
    omega (arith, less, ap (λ (u : Circuit). length u.pool.inputs) c.self.view_is)

pub invariant_of-result : goal.invariant_of-result
invariant_of-result c =
    let i = c.self.inside in
    let v : Circuit = record { kinds = i.kinds.items; pool = i.pool; epoch = i.epoch } in
    let g : IsGraph v = c.self.invariant.0 in
    let rings = rw (← c.self.view_is) at c.tell.ensures.rings in (
      rings,
      λ p h. (
          let there : has p (list_of i.pool.fanouts c.args.node.0) ≡ true = ap (has p) (sym c.fanouts.ensures.list) ∙ h in
          g.wired.shape.read c.args.node.0 p there),
    )

pub returns : goal.returns
returns c =
    let i = c.self.inside in
    let v : Circuit = record { kinds = i.kinds.items; pool = i.pool; epoch = i.epoch } in
    rw (← c.self.view_is) (ap (λ (l : List ℕ). map (reader i.pool) (without_observed (list_of i.pool.inputs 0) l)) c.fanouts.ensures.list ∙ fanouts-are v c.args.node.0)
