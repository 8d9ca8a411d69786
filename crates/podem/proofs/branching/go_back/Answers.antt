use Rattle.std.proofs.Common.{List, ap, arith, length, subst, sym, ◌+◌, ◌≡◌, ◌∷◌, ◌∙◌}
use Rattle.podem.proofs.Going.{closes_one, closes_up, length-snoc, root_closed}
use Rattle.podem.proofs.branching.go_back.Goals as goal
use Rattle.rm_base.proofs.Public.{false_from_not, true_from_not}
use Rattle.podem.specs.Inner.Going.{ClosesAt}
use Rattle.podem.specs.declared.splits.OpenSplit.{OpenSplit}

pub returns-then-not-split-clause-back : goal.returns-then-not-split-clause-back
returns-then-not-split-clause-back c net fault root tree left closed =
    closes_one net fault root c.in-Some.split c.pop.new.self c.loop-split.tracker.before c.take_back.new.self.before c.loop-split.tracker.now c.take_back.new.self.now tree left (false_from_not c.in-Some.split.second c.if-not-split.true) c.take_back.ensures.back
    (subst (λ (ss : List OpenSplit). ClosesAt net fault root ss c.loop-split.tracker.before c.loop-split.tracker.now tree left) c.in-Some.ensures.some (c.loop-split.invariant.back net fault root tree left closed))

pub loop-split-preserved : goal.loop-split-preserved
loop-split-preserved c = record {
  back = λ net fault root tree left closed.
      closes_up net fault root c.in-Some.split c.pop.new.self c.loop-split.tracker.before c.take_back.new.self.before c.loop-split.tracker.now c.take_back.new.self.now tree left (true_from_not c.in-Some.split.second c.if-not-split.false) c.take_back.ensures.back
      (subst (λ (ss : List OpenSplit). ClosesAt net fault root ss c.loop-split.tracker.before c.loop-split.tracker.now tree left) c.in-Some.ensures.some (c.loop-split.invariant.back net fault root tree left closed));
  given =
      let more : length c.loop-split.splits ≡ length (c.in-Some.split ∷ c.pop.new.self) = ap length c.in-Some.ensures.some in
      let size : length c.loop-split.tracker.before ≡ length c.take_back.new.self.before + 1 = ap length c.take_back.ensures.back ∙ length-snoc c.take_back.new.self.before c.take_back.new.self.now in
      omega (arith, more, size, c.loop-split.invariant.given);
  suits = λ net s. c.take_back.ensures.suits net (c.loop-split.invariant.suits net s);
}

pub returns-clause-back : goal.returns-clause-back
returns-clause-back c net fault root tree left closed =
    root_closed net fault root c.loop-split.tracker.before c.loop-split.tracker.now tree left
    (subst (λ (ss : List OpenSplit). ClosesAt net fault root ss c.loop-split.tracker.before c.loop-split.tracker.now tree left) c.in_default.ensures.none (c.loop-split.invariant.back net fault root tree left closed))
