use Rattle.std.proofs.Common.{◌≡◌, ◌∙◌, ℕ, ap, inl, inr, length, refl, sym, true, false, Some}
use Rattle.std.specs.Prelude.{slice_get}
use Rattle.rm_base.specs.declared.numbers.NodeId.{NodeId}
use Rattle.gate_net.specs.Forward.{both_known_different}
use Rattle.gate_graph.specs.Circuit.{net_of}
use Rattle.local_evaluation.proofs.Public.{yielded_at, yielded_more}
use Rattle.ternary_sim.specs.Marks.{good_at, faulty_at}
use Rattle.ternary_sim.proofs.Loops.{whole, each_yielded}
use Rattle.ternary_sim.proofs.simulator.Sim.is_detected.Goals as goal
use Rattle.rm_base.proofs.Public.{last_cases}

pub returns-then-differs : goal.returns-then-differs
returns-then-differs c =
    let first : c.into_iter-node-iterator.result ≡ (net_of c.args.graph.now).observed = cc (c.into_iter-node-iterator.ensures.into_iter_gives, c.observed_points-node-items.ensures.observed) in
    let there : slice_get (net_of c.args.graph.now).observed (length c.loop-node.yielded) ≡ Some c.in-Some.node.0 = rw (← first) (yielded_at (λ d. d.0) c.into_iter-node-iterator.result c.loop-node.yielded c.in-Some.node _ _ c.loop-node.invariant.all c.in-Some.ensures.steps) in
    let known : both_known_different (good_at c.args.self.now.marks c.in-Some.node.0) (faulty_at c.args.self.now.marks c.in-Some.node.0) ≡ true = rw (← c.good.ensures, ← c.faulty.ensures) (sym c.differs.ensures ∙ c.if-differs.true) in
    (λ _. (c.in-Some.node.0, ((length c.loop-node.yielded, there), known)), λ _. refl)

pub loop-node-preserved : goal.loop-node-preserved
loop-node-preserved c =
    let known : both_known_different (good_at c.args.self.now.marks c.in-Some.node.0) (faulty_at c.args.self.now.marks c.in-Some.node.0) ≡ false = rw (← c.good.ensures, ← c.faulty.ensures) (sym c.differs.ensures ∙ c.if-differs.false) in
    record {
      all = yielded_more (λ d. d.0) c.into_iter-node-iterator.result c.loop-node.yielded c.in-Some.node _ _ c.loop-node.invariant.all c.in-Some.ensures.steps;
      same = λ k d e. elim (last_cases c.loop-node.yielded c.in-Some.node k d e) [
        | inl before ↦ c.loop-node.invariant.same k d before
        | inr is ↦ ap (λ (n : NodeId). both_known_different (good_at c.args.self.now.marks n.0) (faulty_at c.args.self.now.marks n.0)) is ∙ known
      ];
    }

pub returns : goal.returns
returns c =
    let first : c.into_iter-node-iterator.result ≡ (net_of c.args.graph.now).observed = cc (c.into_iter-node-iterator.ensures.into_iter_gives, c.observed_points-node-items.ensures.observed) in
    let P : ℕ → Type 0 = λ x. both_known_different (good_at c.args.self.now.marks x) (faulty_at c.args.self.now.marks x) ≡ false in (
      λ e. cc,
      λ found. let none : both_known_different (good_at c.args.self.now.marks found.0) (faulty_at c.args.self.now.marks found.0) ≡ false = each_yielded P (net_of c.args.graph.now).observed c.loop-node.yielded
          (sym first ∙ whole c.into_iter-node-iterator.result c.loop-node.yielded _ c.loop-node.invariant.all c.in-None.ensures.steps.0) c.loop-node.invariant.same found.0 found.1.0 in
          let is : both_known_different (good_at c.args.self.now.marks found.0) (faulty_at c.args.self.now.marks found.0) ≡ true = found.1.1 in cc,
    )
