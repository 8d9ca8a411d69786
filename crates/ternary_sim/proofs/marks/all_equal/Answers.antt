use Rattle.std.proofs.Common.{◌∙◌, ap, inl, inr, length, sym}
use Rattle.rm_base.specs.declared.numbers.NodeId.{NodeId}
use Rattle.local_evaluation.proofs.Public.{yielded_at, yielded_more}
use Rattle.ternary_sim.specs.Marks.{equal_at}
use Rattle.ternary_sim.proofs.Loops.{list_all_fails, list_all_holds, whole}
use Rattle.ternary_sim.proofs.marks.all_equal.Goals as goal
use Rattle.rm_base.proofs.Public.{last_cases}

pub is_equal-requires : goal.is_equal-requires
is_equal-requires c = c.requires _ _ (yielded_at (λ d. d.0) c.args.drivers c.loop-driver.yielded c.in-Some.driver _ _ c.loop-driver.invariant.all c.in-Some.ensures.steps)

pub returns-then-not-is_equal : goal.returns-then-not-is_equal
returns-then-not-is_equal c =
    list_all_fails (equal_at c.args.marks.now) c.args.drivers (length c.loop-driver.yielded) c.in-Some.driver.0
    (yielded_at (λ d. d.0) c.args.drivers c.loop-driver.yielded c.in-Some.driver _ _ c.loop-driver.invariant.all c.in-Some.ensures.steps)
    (sym c.is_equal.ensures ∙ c.if-not-is_equal.true)

pub loop-driver-preserved : goal.loop-driver-preserved
loop-driver-preserved c = record {
  all = yielded_more (λ d. d.0) c.args.drivers c.loop-driver.yielded c.in-Some.driver _ _ c.loop-driver.invariant.all c.in-Some.ensures.steps;
  equal = λ k d e. elim (last_cases c.loop-driver.yielded c.in-Some.driver k d e) [
    | inl before ↦ c.loop-driver.invariant.equal k d before
    | inr is ↦ ap (λ (n : NodeId). equal_at c.args.marks.now n.0) is ∙ sym c.is_equal.ensures ∙ c.if-not-is_equal.false
  ];
}

pub returns : goal.returns
returns c =
    sym (rw (whole c.args.drivers c.loop-driver.yielded _ c.loop-driver.invariant.all c.in-None.ensures.steps.0)
    (list_all_holds (equal_at c.args.marks.now) c.loop-driver.yielded c.loop-driver.invariant.equal))
