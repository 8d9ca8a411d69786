use Rattle.std.proofs.Common.{None, Some, ap, arith, get_or, inl, inr, length, subst, sym, ℕ, ◌<◌, ◌∙◌, ◌≡◌, ◌≢◌}
use Rattle.std.proofs.lemmas.Bool.Decides.{eqb_tells}
use Rattle.std.proofs.lemmas.List.{length-map}
use Rattle.std.specs.Prelude.{slice_get}
use Rattle.gate_graph.specs.Circuit.{net_of}
use Rattle.gate_net.specs.Net.{kind_of}
use Rattle.rm_base.specs.declared.numbers.NodeId.{NodeId}
use Rattle.fault_sim.specs.Following.{Stands}
use Rattle.fault_sim.proofs.placing.any_misplaced.Goals as goal
use Rattle.rm_base.proofs.Public.{number_at, slice_get_below}
use Rattle.rm_base.specs.Numbers.{numbers_of}
use Rattle.rm_base.specs.Inner.Numbers.{default_node}

pub loop-node-preserved : goal.loop-node-preserved
loop-node-preserved c k y less there =
    let here = number_at c.args.changed.now c.loop-node.node-index default_node c.loop-node-test.true in
    elim (eqb_tells k c.loop-node.node-index) [
      | inl t ↦
          let same : (get_or c.args.changed.now c.loop-node.node-index default_node).0 ≡ y =
          let moved : slice_get (numbers_of c.args.changed.now) k ≡ slice_get (numbers_of c.args.changed.now) c.loop-node.node-index = ap (slice_get (numbers_of c.args.changed.now)) t.1 in
          cc in
          subst (λ (z : ℕ). kind_of (net_of c.args.graph.now) z ≢ None → Stands (net_of c.args.graph.now) (numbers_of c.args.order.now) c.args.places.now z) same (c.is_misplaced.ensures c.if-is_misplaced.false)
      | inr t ↦ let ne : k ≢ c.loop-node.node-index = t.1 in c.loop-node.invariant k y (omega arith) there
    ]

pub returns : goal.returns
returns c _ k y there =
    let below : k < length (numbers_of c.args.changed.now) = slice_get_below (numbers_of c.args.changed.now) k (λ none. let wrong : Some y ≡ None = sym there ∙ none in cc) in
    let few : length (numbers_of c.args.changed.now) ≡ length c.args.changed.now = length-map c.args.changed.now (λ (n : NodeId). n.0) in
    c.loop-node.invariant k y (omega arith) there
