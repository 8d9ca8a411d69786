use Rattle.std.proofs.Common.{◌≡◌, ◌∙◌, ℕ, ap, inl, inr, length, refl, sym, true, Some}
use Rattle.std.specs.Prelude.{slice_get}
use Rattle.rm_base.specs.declared.numbers.NodeId.{NodeId}
use Rattle.gate_graph.specs.Circuit.{net_of}
use Rattle.local_evaluation.proofs.Public.{yielded_at, yielded_more}
use Rattle.ternary_sim.specs.Marks.{equal_at}
use Rattle.ternary_sim.proofs.Loops.{whole, each_yielded}
use Rattle.ternary_sim.proofs.simulator.Sim.quiet.Goals as goal
use Rattle.rm_base.proofs.Public.{last_cases}

pub returns-then-not-equal : goal.returns-then-not-equal
returns-then-not-equal c =
    let first : c.into_iter-node-iterator.result ≡ (net_of c.args.graph.now).observed = cc (c.into_iter-node-iterator.ensures.into_iter_gives, c.observed_points-node-items.ensures.observed) in
    let there : slice_get (net_of c.args.graph.now).observed (length c.loop-node.yielded) ≡ Some c.in-Some.node.0 = rw (← first) (yielded_at (λ d. d.0) c.into_iter-node-iterator.result c.loop-node.yielded c.in-Some.node _ _ c.loop-node.invariant.all c.in-Some.ensures.steps) in
    (λ e. cc, λ quiet. let marked : equal_at c.args.self.now.marks c.in-Some.node.0 ≡ true = quiet c.in-Some.node.0 (length c.loop-node.yielded, there) in cc (c.if-not-equal.true, c.equal.ensures))

pub loop-node-preserved : goal.loop-node-preserved
loop-node-preserved c = record {
  all = yielded_more (λ d. d.0) c.into_iter-node-iterator.result c.loop-node.yielded c.in-Some.node _ _ c.loop-node.invariant.all c.in-Some.ensures.steps;
  equal = λ k d e. elim (last_cases c.loop-node.yielded c.in-Some.node k d e) [
    | inl before ↦ c.loop-node.invariant.equal k d before
    | inr is ↦ ap (λ (n : NodeId). equal_at c.args.self.now.marks n.0) is ∙ sym c.equal.ensures ∙ c.if-not-equal.false
  ];
}

pub returns : goal.returns
returns c =
    let first : c.into_iter-node-iterator.result ≡ (net_of c.args.graph.now).observed = cc (c.into_iter-node-iterator.ensures.into_iter_gives, c.observed_points-node-items.ensures.observed) in
    let P : ℕ → Type 0 = λ x. equal_at c.args.self.now.marks x ≡ true in (
      λ _ x observed. each_yielded P (net_of c.args.graph.now).observed c.loop-node.yielded
          (sym first ∙ whole c.into_iter-node-iterator.result c.loop-node.yielded _ c.loop-node.invariant.all c.in-None.ensures.steps.0) c.loop-node.invariant.equal x observed,
      λ _. refl,
    )
