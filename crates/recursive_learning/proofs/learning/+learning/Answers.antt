use Rattle.std.proofs.Common.{Bool, Global, List, Option, Some, Vec, arith, drop, false, get_or, inl, inr, length, map, refl, rules, subst, suc, sym, true, ◌+◌, ◌-◌, ◌<◌, ◌∙◌, ◌≡◌, ◌≢◌, ◌≤◌, ℕ}
use Rattle.std.proofs.lemmas.List.{length-map}
use Rattle.std.proofs.lemmas.Option.{slice_get-get_or, slice_get_within}
use Rattle.std.specs.Option.{MatchOption}
use Rattle.std.specs.Prelude.{slice_get}
use Rattle.gate_graph.specs.Circuit.{net_of}
use Rattle.gate_graph.specs.Search.{IsSeen}
use Rattle.implications.proofs.Public.{trail_tells}
use Rattle.refutation.proofs.Public.{driver_live, none_marked}
use Rattle.implications.specs.Bases.{IsListed}
use Rattle.implications.specs.Trail.{AreAdded, LeadsBack}
use Rattle.recursive_learning.proofs.Commons.{common_clash, common_open, found_all, found_none}
use Rattle.recursive_learning.proofs.Gains.{keeps_join, keeps_none}
use Rattle.recursive_learning.proofs.Holdings.{IsBefore, before_all, before_none, goods_keep, goods_listed, goods_named}
use Rattle.recursive_learning.proofs.Missing.{missing_within}
use Rattle.recursive_learning.proofs.Refutes.{clash_at_deeper}
use Rattle.recursive_learning.proofs.Regions.{covered_more, region_of, region_stays, stays_idle}
use Rattle.recursive_learning.proofs.Rounds.{Learning, forced_clash, forced_join, junction_below, learned_join, learning_more, learning_none, learning_quiet, justified_of, taken_back, taught_nothing, visit_clash, visit_gain, visit_gain_clash}
use Rattle.recursive_learning.proofs.Turns.{forced_at_deeper, gained_not_clash, lt_of, quiet_not_clash, round_clash, round_each, round_gates, round_more, round_settled, together_free, turn_learning, turn_quiet, work_gained, work_taken}
use Rattle.recursive_learning.proofs.Vecs.{driver_at, empty_is, full_is, map_some, true_false}
use Rattle.recursive_learning.proofs.Watches.{known_begun, known_longer, known_more, known_same, known_still, known_taken, known_taught, leaves_join, lengthens_join, lengthens_leaves, lengthens_none, lengthens_rests, lengthens_still, lengthens_taken, none_leaves, region_covers, room_leaves, room_longer, room_still, watching_known, watching_leaves, watching_more}
use Rattle.recursive_learning.specs.Inner.Gates.{AreJustifications, HasTaught}
use Rattle.recursive_learning.specs.Inner.Holding.{NamesAll}
use Rattle.recursive_learning.specs.Least.{IsLeastAt}
use Rattle.recursive_learning.specs.Inner.JustifiedValues.{AreCommon, AreFound, HasLooked, IsEach, IsGained, IsJustified, IsOne, IsRound, MeetsOneMore, Teaches}
use Rattle.recursive_learning.specs.Inner.Watching.{HasRegion, IsCovered, Lengthens, StaysTaught, looks_left}
use Rattle.recursive_learning.specs.Inner.Working.{IsLearned}
use Rattle.recursive_learning.specs.declared.justified_values.GoodValue.{GoodValue}
use Rattle.recursive_learning.specs.declared.justified_values.Round.{Round}
use Rattle.recursive_learning.specs.declared.justified_values.Round.TheVariants.{Clash, Gained, Quiet}
use Rattle.refutation.specs.Closing.{IsWithin}
use Rattle.refutation.specs.FactSets.{held_by, missing}
use Rattle.refutation.specs.Facts.{with_fact}
use Rattle.refutation.specs.Learning.{HasFew, LeadsToClash}
use Rattle.refutation.specs.declared.held.NodeFacts.{NodeFacts}
use Rattle.refutation.specs.declared.reasoning.Fact.{Fact}
use Rattle.refutation.specs.declared.reasoning.Fact.TheVariants.{Good}
use Rattle.rm_base.specs.declared.numbers.NodeId.{NodeId}
use Rattle.recursive_learning.proofs.learning.+learning.Goals as goal
use Rattle.recursive_learning.proofs.learning.+learning.Goals.{justified_at-else-common-via-else-common, justified_at-else-common-via-then-common+else-is_empty-2}

-- IN COMMON

pub in_common-one_more-requires : goal.in_common-one_more-requires
in_common-one_more-requires t c =
    let same : c.loop-driver.facts ≡ c.args.facts.now = c.loop-driver.invariant.same in
    let is_open = c.requires.drivers c.loop-driver.driver-index (get_or c.args.choice.now.drivers.now c.loop-driver.driver-index (record { 0 = 0 })).0 (driver_at c.args.choice.now.drivers.now c.loop-driver.driver-index (record { 0 = 0 }) (omega arith)) in
    (search rules, (rw c.loop-driver.invariant.keeps.numbers c.requires.numbers, (rw same c.requires.size, (rw same c.requires.settled, (room_leaves (net_of c.args.question.now.graph.now) c.args.watch.now c.loop-driver.watch c.loop-driver.invariant.leaves c.requires.room, (λ deep. goods_keep c.args.watch.now c.loop-driver.watch c.args.engine.now c.loop-driver.engine c.args.facts.now c.loop-driver.facts c.loop-driver.invariant.leaves.first c.loop-driver.invariant.keeps (c.requires.goods deep), (λ deep. rw same (watching_leaves (net_of c.args.question.now.graph.now) c.args.question.now.fault (held_by c.args.facts.now) c.args.watch.now c.loop-driver.watch c.loop-driver.invariant.leaves (c.requires.watching deep)), (λ deep. none_leaves c.args.watch.now c.loop-driver.watch c.loop-driver.invariant.leaves.listed (c.requires.none deep), (rw c.loop-driver.invariant.leaves.numbers c.requires.gate, (is_open.0, rw same is_open.1))))))))))

pub in_common-returns-then-is_empty-clause-found : goal.in_common-returns-then-is_empty-clause-found
in_common-returns-then-is_empty-clause-found t c =
    let same : c.loop-driver.facts ≡ c.args.facts.now = c.loop-driver.invariant.same in
    let common : AreCommon (net_of c.args.question.now.graph.now) c.args.question.now.fault c.args.depth (held_by c.args.facts.now) c.args.choice.now.value (map (λ n. n.0) c.args.choice.now.drivers.now) (c.loop-driver.driver-index + 1) c.in_ok-common.common.found c.in_ok-common.common.goods.items =
    subst (λ (f : List NodeFacts). MeetsOneMore (net_of c.args.question.now.graph.now) c.args.question.now.fault c.args.depth (held_by f) c.args.choice.now.value (get_or c.args.choice.now.drivers.now c.loop-driver.driver-index (record { 0 = 0 })).0 c.loop-driver.common c.in_ok-common.common) same c.in_ok-common.ensures.common (map (λ n. n.0) c.args.choice.now.drivers.now) c.loop-driver.driver-index (driver_at c.args.choice.now.drivers.now c.loop-driver.driver-index (record { 0 = 0 }) (omega arith)) c.loop-driver.invariant.common in
    found_none (net_of c.args.question.now.graph.now) c.args.question.now.fault c.args.depth (held_by c.args.facts.now) c.args.choice.now.value (map (λ n. n.0) c.args.choice.now.drivers.now) (c.loop-driver.driver-index + 1) c.in_ok-common.common.found c.in_ok-common.common.goods.items common c.if-common.true (empty_is c.in_ok-common.common.goods c.if-is_empty.ensures)

pub in_common-returns-then-is_empty-clause-keeps : goal.in_common-returns-then-is_empty-clause-keeps
in_common-returns-then-is_empty-clause-keeps t c =
    keeps_join c.args.engine.now c.loop-driver.engine c.one_more.new.engine c.args.facts.now c.loop-driver.facts c.one_more.new.facts c.loop-driver.invariant.keeps c.in_ok-common.ensures.keeps

pub in_common-returns-then-is_empty-clause-region : goal.in_common-returns-then-is_empty-clause-region
in_common-returns-then-is_empty-clause-region t c some none zero unknown =
    let same : c.loop-driver.facts ≡ c.args.facts.now = c.loop-driver.invariant.same in
    let common : AreCommon (net_of c.args.question.now.graph.now) c.args.question.now.fault c.args.depth (held_by c.args.facts.now) c.args.choice.now.value (map (λ n. n.0) c.args.choice.now.drivers.now) (c.loop-driver.driver-index + 1) c.in_ok-common.common.found c.in_ok-common.common.goods.items =
    subst (λ (f : List NodeFacts). MeetsOneMore (net_of c.args.question.now.graph.now) c.args.question.now.fault c.args.depth (held_by f) c.args.choice.now.value (get_or c.args.choice.now.drivers.now c.loop-driver.driver-index (record { 0 = 0 })).0 c.loop-driver.common c.in_ok-common.common) same c.in_ok-common.ensures.common (map (λ n. n.0) c.args.choice.now.drivers.now) c.loop-driver.driver-index (driver_at c.args.choice.now.drivers.now c.loop-driver.driver-index (record { 0 = 0 }) (omega arith)) c.loop-driver.invariant.common in
    let covered : (k d : ℕ) → k < c.loop-driver.driver-index + 1 → slice_get (map (λ n. n.0) c.args.choice.now.drivers.now) k ≡ Some d → IsCovered (net_of c.args.question.now.graph.now) c.args.question.now.fault (held_by c.args.facts.now) c.args.choice.now.value d c.one_more.new.watch.rests.entries c.args.gate.0 =
    covered_more (net_of c.args.question.now.graph.now) c.args.question.now.fault (held_by c.args.facts.now) c.args.choice.now.value (map (λ n. n.0) c.args.choice.now.drivers.now) c.loop-driver.driver-index (get_or c.args.choice.now.drivers.now c.loop-driver.driver-index (record { 0 = 0 })).0 c.loop-driver.watch.rests.entries c.one_more.new.watch.rests.entries c.args.gate.0 c.in_ok-common.ensures.leaves.longer (c.loop-driver.invariant.covered zero unknown) (driver_at c.args.choice.now.drivers.now c.loop-driver.driver-index (record { 0 = 0 }) (omega arith))
    (subst (λ (f : List NodeFacts). IsCovered (net_of c.args.question.now.graph.now) c.args.question.now.fault (held_by f) c.args.choice.now.value (get_or c.args.choice.now.drivers.now c.loop-driver.driver-index (record { 0 = 0 })).0 c.one_more.new.watch.rests.entries c.args.gate.0) same (c.in_ok-common.ensures.covered zero (c.loop-driver.invariant.leaves.all ∙ unknown))) in
    region_of (net_of c.args.question.now.graph.now) c.args.question.now.fault c.args.depth (held_by c.args.facts.now) c.args.choice.now.value (map (λ n. n.0) c.args.choice.now.drivers.now) (c.loop-driver.driver-index + 1) c.in_ok-common.common.found c.in_ok-common.common.goods.items c.one_more.new.watch.rests.entries c.args.gate.0 common some none zero covered

pub in_common-loop-driver-preserved : goal.in_common-loop-driver-preserved
in_common-loop-driver-preserved t c =
    let same : c.loop-driver.facts ≡ c.args.facts.now = c.loop-driver.invariant.same in
    let common : AreCommon (net_of c.args.question.now.graph.now) c.args.question.now.fault c.args.depth (held_by c.args.facts.now) c.args.choice.now.value (map (λ n. n.0) c.args.choice.now.drivers.now) (c.loop-driver.driver-index + 1) c.in_ok-common.common.found c.in_ok-common.common.goods.items =
    subst (λ (f : List NodeFacts). MeetsOneMore (net_of c.args.question.now.graph.now) c.args.question.now.fault c.args.depth (held_by f) c.args.choice.now.value (get_or c.args.choice.now.drivers.now c.loop-driver.driver-index (record { 0 = 0 })).0 c.loop-driver.common c.in_ok-common.common) same c.in_ok-common.ensures.common (map (λ n. n.0) c.args.choice.now.drivers.now) c.loop-driver.driver-index (driver_at c.args.choice.now.drivers.now c.loop-driver.driver-index (record { 0 = 0 }) (omega arith)) c.loop-driver.invariant.common in
    record {
      keeps = keeps_join c.args.engine.now c.loop-driver.engine c.one_more.new.engine c.args.facts.now c.loop-driver.facts c.one_more.new.facts c.loop-driver.invariant.keeps c.in_ok-common.ensures.keeps;
      same = c.in_ok-common.ensures.same ∙ same;
      leaves = leaves_join c.args.watch.now c.loop-driver.watch c.one_more.new.watch c.loop-driver.invariant.leaves c.in_ok-common.ensures.leaves;
      common = common;
      covered = λ zero unknown. let covered : (k d : ℕ) → k < c.loop-driver.driver-index + 1 → slice_get (map (λ n. n.0) c.args.choice.now.drivers.now) k ≡ Some d → IsCovered (net_of c.args.question.now.graph.now) c.args.question.now.fault (held_by c.args.facts.now) c.args.choice.now.value d c.one_more.new.watch.rests.entries c.args.gate.0 =
          covered_more (net_of c.args.question.now.graph.now) c.args.question.now.fault (held_by c.args.facts.now) c.args.choice.now.value (map (λ n. n.0) c.args.choice.now.drivers.now) c.loop-driver.driver-index (get_or c.args.choice.now.drivers.now c.loop-driver.driver-index (record { 0 = 0 })).0 c.loop-driver.watch.rests.entries c.one_more.new.watch.rests.entries c.args.gate.0 c.in_ok-common.ensures.leaves.longer (c.loop-driver.invariant.covered zero unknown) (driver_at c.args.choice.now.drivers.now c.loop-driver.driver-index (record { 0 = 0 }) (omega arith))
          (subst (λ (f : List NodeFacts). IsCovered (net_of c.args.question.now.graph.now) c.args.question.now.fault (held_by f) c.args.choice.now.value (get_or c.args.choice.now.drivers.now c.loop-driver.driver-index (record { 0 = 0 })).0 c.one_more.new.watch.rests.entries c.args.gate.0) same (c.in_ok-common.ensures.covered zero (c.loop-driver.invariant.leaves.all ∙ unknown))) in
          covered;
    }

pub in_common-returns-clause-found : goal.in_common-returns-clause-found
in_common-returns-clause-found t c =
    found_all (net_of c.args.question.now.graph.now) c.args.question.now.fault c.args.depth (held_by c.args.facts.now) c.args.choice.now.value (map (λ n. n.0) c.args.choice.now.drivers.now) c.loop-driver.driver-index c.loop-driver.common.found c.loop-driver.common.goods.items c.loop-driver.invariant.common (rw length-map c.loop-driver-test.false)

pub in_common-returns-clause-region : goal.in_common-returns-clause-region
in_common-returns-clause-region t c some none zero unknown =
    region_of (net_of c.args.question.now.graph.now) c.args.question.now.fault c.args.depth (held_by c.args.facts.now) c.args.choice.now.value (map (λ n. n.0) c.args.choice.now.drivers.now) c.loop-driver.driver-index c.loop-driver.common.found c.loop-driver.common.goods.items c.loop-driver.watch.rests.entries c.args.gate.0 c.loop-driver.invariant.common some none zero (c.loop-driver.invariant.covered zero unknown)

-- LEARN DEEPER

pub learn_deeper-returns-then-branch-clause-learned : goal.learn_deeper-returns-then-branch-clause-learned
learn_deeper-returns-then-branch-clause-learned t c =
    clash_at_deeper (net_of c.args.question.now.graph.now) c.args.question.now.fault (c.args.depth - 1) c.args.depth (held_by c.args.facts.now) (omega arith) (subst (λ (b : Bool). IsLearned (net_of c.args.question.now.graph.now) c.args.question.now.fault (c.args.depth - 1) (held_by c.args.facts.now) b (held_by c.learn.new.facts)) c.if-branch.true c.in_ok-learn.ensures.learned)

pub learn_deeper-loop-init : goal.learn_deeper-loop-init
learn_deeper-loop-init t c =
    let l : IsLearned (net_of c.args.question.now.graph.now) c.args.question.now.fault (c.args.depth - 1) (held_by c.args.facts.now) false (held_by c.learn.new.facts) = subst (λ (b : Bool). IsLearned (net_of c.args.question.now.graph.now) c.args.question.now.fault (c.args.depth - 1) (held_by c.args.facts.now) b (held_by c.learn.new.facts)) c.if-branch.false c.in_ok-learn.ensures.learned in
    record {
      learning = record { keeps = c.in_ok-learn.ensures.keeps; settled = l.1; forced = forced_at_deeper (net_of c.args.question.now.graph.now) c.args.question.now.fault (c.args.depth - 1) c.args.depth (held_by c.args.facts.now) (held_by c.learn.new.facts) (omega arith) l.0.least };
      watching = c.in_ok-learn.ensures.watching c.if-branch.false;
      none = c.in_ok-learn.ensures.none c.if-branch.false;
      lengthens = c.in_ok-learn.ensures.lengthens;
    }

pub learn_deeper-visit_goods-requires : goal.learn_deeper-visit_goods-requires
learn_deeper-visit_goods-requires t c =
    (search rules, (rw c.loop.invariant.learning.keeps.numbers c.requires.numbers, (rw c.loop.invariant.learning.keeps.size c.requires.size, (c.loop.invariant.learning.settled, (room_longer (net_of c.args.question.now.graph.now) c.args.watch.now c.loop.watch c.loop.invariant.lengthens c.requires.room, (goods_keep c.args.watch.now c.loop.watch c.args.engine.now c.loop.engine c.args.facts.now c.loop.facts c.loop.invariant.lengthens.first c.loop.invariant.learning.keeps c.requires.goods, (c.loop.invariant.watching, (c.loop.invariant.none, (let deep : 1 < c.args.depth = c.requires.deep in omega arith)))))))))

pub learn_deeper-returns-in-Clash-clause-learned : goal.learn_deeper-returns-in-Clash-clause-learned
learn_deeper-returns-in-Clash-clause-learned t c =
    let e : suc (c.args.depth - 1) ≡ c.args.depth = let deep : 1 < c.args.depth = c.requires.deep in omega arith in
    let h : IsRound (net_of c.args.question.now.graph.now) c.args.question.now.fault (c.args.depth - 1) IsEach c.loop.facts Clash c.visit_goods.new.facts = subst (λ (r : Round). IsRound (net_of c.args.question.now.graph.now) c.args.question.now.fault (c.args.depth - 1) IsEach c.loop.facts r c.visit_goods.new.facts) c.in-Clash.is c.in_ok-visit_goods.ensures.round in
    forced_clash (net_of c.args.question.now.graph.now) c.args.question.now.fault c.args.depth (held_by c.args.facts.now) (held_by c.loop.facts) c.loop.invariant.learning.forced (subst (λ (n : ℕ). LeadsToClash (net_of c.args.question.now.graph.now) c.args.question.now.fault n (held_by c.loop.facts)) e h)

pub learn_deeper-returns-in-Clash-clause-keeps : goal.learn_deeper-returns-in-Clash-clause-keeps
learn_deeper-returns-in-Clash-clause-keeps t c =
    keeps_join c.args.engine.now c.loop.engine c.visit_goods.new.engine c.args.facts.now c.loop.facts c.visit_goods.new.facts c.loop.invariant.learning.keeps c.in_ok-visit_goods.ensures.keeps

pub learn_deeper-returns-in-Clash-clause-lengthens : goal.learn_deeper-returns-in-Clash-clause-lengthens
learn_deeper-returns-in-Clash-clause-lengthens t c =
    lengthens_join c.args.watch.now c.loop.watch c.visit_goods.new.watch c.loop.invariant.lengthens c.in_ok-visit_goods.ensures.lengthens

pub learn_deeper-returns-in-Quiet-clause-learned : goal.learn_deeper-returns-in-Quiet-clause-learned
learn_deeper-returns-in-Quiet-clause-learned t c =
    let e : suc (c.args.depth - 1) ≡ c.args.depth = let deep : 1 < c.args.depth = c.requires.deep in omega arith in
    let h : IsRound (net_of c.args.question.now.graph.now) c.args.question.now.fault (c.args.depth - 1) IsEach c.loop.facts Quiet c.visit_goods.new.facts = subst (λ (r : Round). IsRound (net_of c.args.question.now.graph.now) c.args.question.now.fault (c.args.depth - 1) IsEach c.loop.facts r c.visit_goods.new.facts) c.in-Quiet.is c.in_ok-visit_goods.ensures.round in
    subst (λ (n : ℕ). IsLearned (net_of c.args.question.now.graph.now) c.args.question.now.fault n (held_by c.args.facts.now) false (held_by c.visit_goods.new.facts)) e
    (turn_quiet (net_of c.args.question.now.graph.now) c.args.question.now.fault (c.args.depth - 1) c.args.engine.now c.loop.engine c.visit_goods.new.engine c.args.facts.now c.loop.facts c.visit_goods.new.facts (subst (λ (n : ℕ). Learning (net_of c.args.question.now.graph.now) c.args.question.now.fault n c.args.engine.now c.loop.engine c.args.facts.now c.loop.facts) (sym e) c.loop.invariant.learning) c.in_ok-visit_goods.ensures.keeps h)

pub learn_deeper-returns-in-Quiet-clause-keeps : goal.learn_deeper-returns-in-Quiet-clause-keeps
learn_deeper-returns-in-Quiet-clause-keeps t c =
    keeps_join c.args.engine.now c.loop.engine c.visit_goods.new.engine c.args.facts.now c.loop.facts c.visit_goods.new.facts c.loop.invariant.learning.keeps c.in_ok-visit_goods.ensures.keeps

pub learn_deeper-returns-in-Quiet-clause-lengthens : goal.learn_deeper-returns-in-Quiet-clause-lengthens
learn_deeper-returns-in-Quiet-clause-lengthens t c =
    lengthens_join c.args.watch.now c.loop.watch c.visit_goods.new.watch c.loop.invariant.lengthens c.in_ok-visit_goods.ensures.lengthens

pub learn_deeper-returns-in-Quiet-clause-watching : goal.learn_deeper-returns-in-Quiet-clause-watching
learn_deeper-returns-in-Quiet-clause-watching t c e =
    c.in_ok-visit_goods.ensures.watching (quiet_not_clash c.in_ok-visit_goods.field-0 c.in-Quiet.is)

pub learn_deeper-returns-in-Quiet-clause-none : goal.learn_deeper-returns-in-Quiet-clause-none
learn_deeper-returns-in-Quiet-clause-none t c e =
    c.in_ok-visit_goods.ensures.none (quiet_not_clash c.in_ok-visit_goods.field-0 c.in-Quiet.is)

pub learn_deeper-loop-smaller : goal.learn_deeper-loop-smaller
learn_deeper-loop-smaller t c =
    let h : IsRound (net_of c.args.question.now.graph.now) c.args.question.now.fault (c.args.depth - 1) IsEach c.loop.facts Gained c.visit_goods.new.facts = subst (λ (r : Round). IsRound (net_of c.args.question.now.graph.now) c.args.question.now.fault (c.args.depth - 1) IsEach c.loop.facts r c.visit_goods.new.facts) c.in-Gained.is c.in_ok-visit_goods.ensures.round in
    h.1.1

pub learn_deeper-loop-preserved : goal.learn_deeper-loop-preserved
learn_deeper-loop-preserved t c =
    let e : suc (c.args.depth - 1) ≡ c.args.depth = let deep : 1 < c.args.depth = c.requires.deep in omega arith in
    let ne : c.in_ok-visit_goods.field-0 ≢ Clash = gained_not_clash c.in_ok-visit_goods.field-0 c.in-Gained.is in
    record {
      learning = subst (λ (n : ℕ). Learning (net_of c.args.question.now.graph.now) c.args.question.now.fault n c.args.engine.now c.visit_goods.new.engine c.args.facts.now c.visit_goods.new.facts) e (turn_learning (net_of c.args.question.now.graph.now) c.args.question.now.fault (c.args.depth - 1) IsEach c.args.engine.now c.loop.engine c.visit_goods.new.engine c.args.facts.now c.loop.facts c.visit_goods.new.facts c.in_ok-visit_goods.field-0 (subst (λ (n : ℕ). Learning (net_of c.args.question.now.graph.now) c.args.question.now.fault n c.args.engine.now c.loop.engine c.args.facts.now c.loop.facts) (sym e) c.loop.invariant.learning) c.in_ok-visit_goods.ensures.keeps ne c.in_ok-visit_goods.ensures.round);
      watching = c.in_ok-visit_goods.ensures.watching ne;
      none = c.in_ok-visit_goods.ensures.none ne;
      lengthens = lengthens_join c.args.watch.now c.loop.watch c.visit_goods.new.watch c.loop.invariant.lengthens c.in_ok-visit_goods.ensures.lengthens;
    }

-- VISIT GOODS

pub visit_goods-returns-clause-round : goal.visit_goods-returns-clause-round
visit_goods-returns-clause-round t c =
    round_each (net_of c.args.question.now.graph.now) c.args.question.now.fault c.args.depth (IsListed c.in_ok-gates.gates.items) c.args.facts.now c.in_ok-round.round c.visit_each.new.facts
    (goods_named c.args.watch.now c.args.engine.now c.args.facts.now c.in_ok-gates.gates.items c.requires.goods (subst (λ (added : List (NodeId × Fact)). NamesAll c.args.watch.now added c.in_ok-gates.gates.items) c.added_facts.ensures c.in_ok-gates.ensures))
    (subst (λ (gates : List NodeId). IsRound (net_of c.args.question.now.graph.now) c.args.question.now.fault c.args.depth (IsListed gates) c.args.facts.now c.in_ok-round.round c.visit_each.new.facts) c.deref.ensures.value c.in_ok-round.ensures.round)

-- VISIT EACH

pub visit_each-visit_deep-requires : goal.visit_each-visit_deep-requires
visit_each-visit_deep-requires t c =
    (search rules, (rw c.loop-gate.invariant.keeps.numbers c.requires.numbers, (rw c.loop-gate.invariant.keeps.size c.requires.size, (c.loop-gate.invariant.settled, (room_longer (net_of c.args.question.now.graph.now) c.args.watch.now c.loop-gate.watch c.loop-gate.invariant.lengthens c.requires.room, (goods_keep c.args.watch.now c.loop-gate.watch c.args.engine.now c.loop-gate.engine c.args.facts.now c.loop-gate.facts c.loop-gate.invariant.lengthens.first c.loop-gate.invariant.keeps c.requires.goods, (c.loop-gate.invariant.watching, (c.loop-gate.invariant.none, c.requires.deep))))))))

pub visit_each-loop-gate-init : goal.visit_each-loop-gate-init
visit_each-loop-gate-init t c =
    record {
      keeps = keeps_none c.args.engine.now c.args.facts.now;
      round = (refl, before_none c.args.gates.now (HasTaught (net_of c.args.question.now.graph.now) c.args.question.now.fault c.args.depth (held_by c.args.facts.now)));
      free = quiet_not_clash Quiet refl;
      settled = c.requires.settled;
      watching = c.requires.watching;
      none = c.requires.none;
      lengthens = lengthens_none c.args.watch.now;
    }

pub visit_each-loop-gate-preserved : goal.visit_each-loop-gate-preserved
visit_each-loop-gate-preserved t c =
    let ne : c.in_ok-round.round ≢ Clash = c.is_clash.ensures.other c.if-is_clash.false in
    record {
      keeps = keeps_join c.args.engine.now c.loop-gate.engine c.visit_deep.new.engine c.args.facts.now c.loop-gate.facts c.visit_deep.new.facts c.loop-gate.invariant.keeps c.in_ok-round.ensures.keeps;
      round = round_more (net_of c.args.question.now.graph.now) c.args.question.now.fault c.args.depth c.args.gates.now c.loop-gate.gate-index (get_or c.args.gates.now c.loop-gate.gate-index (record { 0 = 0 })) c.args.facts.now c.loop-gate.facts c.visit_deep.new.facts c.loop-gate.all c.in_ok-round.round c.together-all.result (slice_get-get_or c.args.gates.now c.loop-gate.gate-index (record { 0 = 0 }) (omega arith)) c.loop-gate.invariant.free ne c.together-all.ensures.quiet c.together-all.ensures.gained c.loop-gate.invariant.round c.in_ok-round.ensures.round;
      free = together_free c.loop-gate.all c.in_ok-round.round c.together-all.result c.loop-gate.invariant.free ne c.together-all.ensures.quiet c.together-all.ensures.gained;
      settled = round_settled (net_of c.args.question.now.graph.now) c.args.question.now.fault c.args.depth (IsOne (get_or c.args.gates.now c.loop-gate.gate-index (record { 0 = 0 })).0) c.loop-gate.facts c.in_ok-round.round c.visit_deep.new.facts ne c.loop-gate.invariant.settled c.in_ok-round.ensures.round;
      watching = c.in_ok-round.ensures.watching ne;
      none = c.in_ok-round.ensures.none ne;
      lengthens = lengthens_join c.args.watch.now c.loop-gate.watch c.visit_deep.new.watch c.loop-gate.invariant.lengthens c.in_ok-round.ensures.lengthens;
    }

pub visit_each-returns-then-is_clash-clause-round : goal.visit_each-returns-then-is_clash-clause-round
visit_each-returns-then-is_clash-clause-round t c =
    round_clash (net_of c.args.question.now.graph.now) c.args.question.now.fault c.args.depth (IsBefore c.args.gates.now c.loop-gate.gate-index) c.args.facts.now c.loop-gate.all c.loop-gate.facts c.loop-gate.invariant.free c.loop-gate.invariant.round
    (subst (λ (r : Round). IsRound (net_of c.args.question.now.graph.now) c.args.question.now.fault c.args.depth (IsOne (get_or c.args.gates.now c.loop-gate.gate-index (record { 0 = 0 })).0) c.loop-gate.facts r c.visit_deep.new.facts) (c.is_clash.ensures.clash c.if-is_clash.true) c.in_ok-round.ensures.round)

pub visit_each-returns-then-is_clash-clause-keeps : goal.visit_each-returns-then-is_clash-clause-keeps
visit_each-returns-then-is_clash-clause-keeps t c =
    keeps_join c.args.engine.now c.loop-gate.engine c.visit_deep.new.engine c.args.facts.now c.loop-gate.facts c.visit_deep.new.facts c.loop-gate.invariant.keeps c.in_ok-round.ensures.keeps

pub visit_each-returns-then-is_clash-clause-lengthens : goal.visit_each-returns-then-is_clash-clause-lengthens
visit_each-returns-then-is_clash-clause-lengthens t c =
    lengthens_join c.args.watch.now c.loop-gate.watch c.visit_deep.new.watch c.loop-gate.invariant.lengthens c.in_ok-round.ensures.lengthens

pub visit_each-returns-clause-round : goal.visit_each-returns-clause-round
visit_each-returns-clause-round t c =
    round_gates (net_of c.args.question.now.graph.now) c.args.question.now.fault c.args.depth (IsBefore c.args.gates.now c.loop-gate.gate-index) (IsListed c.args.gates.now) c.args.facts.now c.loop-gate.all c.loop-gate.facts (before_all c.args.gates.now c.loop-gate.gate-index c.loop-gate-test.false) c.loop-gate.invariant.round

-- LEARN ONE

pub learn_one-loop-gate-init : goal.learn_one-loop-gate-init
learn_one-loop-gate-init t c =
    record {
      learning = learning_none (net_of c.args.question.now.graph.now) c.args.question.now.fault 1 c.args.engine.now c.args.facts.now c.requires.settled;
      known = known_begun (net_of c.args.question.now.graph.now) c.args.question.now.fault (held_by c.args.facts.now) c.args.watch.now c.begin.new.self (λ unknown. let begun = c.in_ok-begin.ensures.goods unknown in goods_listed (net_of c.args.question.now.graph.now) c.args.watch.now c.args.engine.now c.args.facts.now begun.0 c.begin.new.self.listed c.requires.goods (subst (λ (added : List (NodeId × Fact)). NamesAll c.args.watch.now added begun.0) c.added_facts.ensures begun.1.0) begun.1.1 (omega (arith, c.begin.ensures.size, c.requires.room.places, c.requires.room.gates))) c.in_ok-begin.ensures.same c.begin.ensures.rests c.requires.watching;
      all = c.in_ok-begin.ensures.known;
      lengthens = lengthens_rests c.args.watch.now c.begin.new.self c.begin.ensures.rests c.begin.ensures.size c.begin.ensures.first;
    }

pub learn_one-look_at-requires : goal.learn_one-look_at-requires
learn_one-look_at-requires t c =
    let taken = c.in-Some.ensures.taken in
    let taking : Lengthens c.loop-gate.watch c.take.new.self = lengthens_taken c.loop-gate.watch c.take.new.self c.in-Some.gate.0 taken.1 c.in-Some.ensures.rests c.in-Some.ensures.first in
    (search rules, (rw c.loop-gate.invariant.learning.keeps.numbers c.requires.numbers, (rw c.loop-gate.invariant.learning.keeps.size c.requires.size, (c.loop-gate.invariant.learning.settled, (room_longer (net_of c.args.question.now.graph.now) c.args.watch.now c.take.new.self (lengthens_join c.args.watch.now c.loop-gate.watch c.take.new.self c.loop-gate.invariant.lengthens taking) c.requires.room, (c.in-Some.ensures.all ∙ c.loop-gate.invariant.all, (known_taken (net_of c.args.question.now.graph.now) c.args.question.now.fault (held_by c.loop-gate.facts) c.loop-gate.watch c.take.new.self c.in-Some.gate.0 taken.1 c.in-Some.ensures.rests c.loop-gate.invariant.known, rw taking.size (slice_get_within c.loop-gate.watch.listed c.in-Some.gate.0 true taken.0))))))))

pub learn_one-returns-then-branch-clause-learned : goal.learn_one-returns-then-branch-clause-learned
learn_one-returns-then-branch-clause-learned t c =
    forced_clash (net_of c.args.question.now.graph.now) c.args.question.now.fault 1 (held_by c.args.facts.now) (held_by c.loop-gate.facts) c.loop-gate.invariant.learning.forced (subst (λ (b : Bool). HasLooked (net_of c.args.question.now.graph.now) c.args.question.now.fault (held_by c.loop-gate.facts) b (held_by c.look_at.new.facts)) c.if-branch.true c.in_ok-look_at.ensures.looked)

pub learn_one-returns-then-branch-clause-keeps : goal.learn_one-returns-then-branch-clause-keeps
learn_one-returns-then-branch-clause-keeps t c =
    keeps_join c.args.engine.now c.loop-gate.engine c.look_at.new.engine c.args.facts.now c.loop-gate.facts c.look_at.new.facts c.loop-gate.invariant.learning.keeps c.in_ok-look_at.ensures.keeps

pub learn_one-loop-gate-smaller : goal.learn_one-loop-gate-smaller
learn_one-loop-gate-smaller t c =
    let taken = c.in-Some.ensures.taken in
    let one : looks_left c.loop-gate.facts c.take.new.self.listed < looks_left c.loop-gate.facts c.loop-gate.watch.listed = rw taken.1 (work_taken c.loop-gate.facts c.loop-gate.watch.listed c.in-Some.gate.0 taken.0) in
    let less : looks_left c.look_at.new.facts c.look_at.new.watch.listed ≤ looks_left c.loop-gate.facts c.take.new.self.listed = c.in_ok-look_at.ensures.less c.if-branch.false in
    lt_of (looks_left c.look_at.new.facts c.look_at.new.watch.listed) (looks_left c.loop-gate.facts c.take.new.self.listed) (looks_left c.loop-gate.facts c.loop-gate.watch.listed) less one

pub learn_one-loop-gate-preserved : goal.learn_one-loop-gate-preserved
learn_one-loop-gate-preserved t c =
    let taken = c.in-Some.ensures.taken in
    let looked : HasLooked (net_of c.args.question.now.graph.now) c.args.question.now.fault (held_by c.loop-gate.facts) false (held_by c.look_at.new.facts) = subst (λ (b : Bool). HasLooked (net_of c.args.question.now.graph.now) c.args.question.now.fault (held_by c.loop-gate.facts) b (held_by c.look_at.new.facts)) c.if-branch.false c.in_ok-look_at.ensures.looked in
    record {
      learning = learning_more (net_of c.args.question.now.graph.now) c.args.question.now.fault 1 c.args.engine.now c.loop-gate.engine c.look_at.new.engine c.args.facts.now c.loop-gate.facts c.look_at.new.facts c.loop-gate.invariant.learning c.in_ok-look_at.ensures.keeps looked.0 looked.1;
      known = c.in_ok-look_at.ensures.known c.if-branch.false;
      all = c.in_ok-look_at.ensures.all;
      lengthens = lengthens_join c.args.watch.now c.take.new.self c.look_at.new.watch (lengthens_join c.args.watch.now c.loop-gate.watch c.take.new.self c.loop-gate.invariant.lengthens (lengthens_taken c.loop-gate.watch c.take.new.self c.in-Some.gate.0 taken.1 c.in-Some.ensures.rests c.in-Some.ensures.first)) c.in_ok-look_at.ensures.lengthens;
    }

pub learn_one-returns-clause-learned : goal.learn_one-returns-clause-learned
learn_one-returns-clause-learned t c =
    learning_quiet (net_of c.args.question.now.graph.now) c.args.question.now.fault 0 c.args.engine.now c.loop-gate.engine c.args.facts.now c.loop-gate.facts c.loop-gate.invariant.learning (known_taught (net_of c.args.question.now.graph.now) c.args.question.now.fault (held_by c.loop-gate.facts) c.loop-gate.watch c.loop-gate.invariant.learning.settled c.in_default.ensures.taken.1 c.loop-gate.invariant.known)

pub learn_one-returns-clause-watching : goal.learn_one-returns-clause-watching
learn_one-returns-clause-watching t c e =
    inr (λ y. known_same (net_of c.args.question.now.graph.now) c.args.question.now.fault (held_by c.loop-gate.facts) c.loop-gate.watch c.take.new.self y c.in_default.ensures.taken.0 c.in_default.ensures.rests (c.loop-gate.invariant.known y))

pub learn_one-returns-clause-none : goal.learn_one-returns-clause-none
learn_one-returns-clause-none t c e =
    none_marked c.take.new.self.listed (λ z seen. c.in_default.ensures.taken.1 z (rw c.in_default.ensures.taken.0 at seen))

-- LOOK AT

pub look_at-returns-in-Quiet-clause-known : goal.look_at-returns-in-Quiet-clause-known
look_at-returns-in-Quiet-clause-known t c e y =
    elim (c.requires.known y) [
      | inl is ↦ inr (subst (StaysTaught (net_of c.args.question.now.graph.now) c.args.question.now.fault (held_by c.visit.new.facts) c.visit.new.watch.rests.entries) (sym is) (c.in_ok-visit.ensures.stays c.in-Quiet.is refl c.requires.all))
      | inr known ↦ c.in_ok-visit.ensures.known (quiet_not_clash c.in_ok-visit.field-0 c.in-Quiet.is) y known
    ]

pub look_at-returns-in-Gained-clause-known : goal.look_at-returns-in-Gained-clause-known
look_at-returns-in-Gained-clause-known t c e y =
    elim (c.requires.known y) [
      | inl is ↦ inl (subst (IsSeen c.list.new.self.listed) (sym is) c.list.ensures.there)
      | inr known ↦ known_still (net_of c.args.question.now.graph.now) c.args.question.now.fault (held_by c.visit.new.facts) c.visit.new.watch c.list.new.self y c.list.ensures.still (c.in_ok-visit.ensures.known (gained_not_clash c.in_ok-visit.field-0 c.in-Gained.is) y known)
    ]

pub look_at-returns-in-Gained-clause-less : goal.look_at-returns-in-Gained-clause-less
look_at-returns-in-Gained-clause-less t c e =
    let h : IsRound (net_of c.args.question.now.graph.now) c.args.question.now.fault 0 (IsOne c.args.gate.0) c.args.facts.now Gained c.visit.new.facts = subst (λ (r : Round). IsRound (net_of c.args.question.now.graph.now) c.args.question.now.fault 0 (IsOne c.args.gate.0) c.args.facts.now r c.visit.new.facts) c.in-Gained.is c.in_ok-visit.ensures.round in
    work_gained c.args.facts.now c.visit.new.facts c.args.watch.now.listed c.list.new.self.listed h.1.1 (c.list.ensures.still.size ∙ c.in_ok-visit.ensures.lengthens.size)

-- VISIT DEEP

pub visit_deep-learn-requires : goal.visit_deep-learn-requires
visit_deep-learn-requires t c =
    let h : IsRound (net_of c.args.question.now.graph.now) c.args.question.now.fault c.args.depth (IsOne c.args.gate.0) c.args.facts.now Gained c.visit.new.facts = subst (λ (r : Round). IsRound (net_of c.args.question.now.graph.now) c.args.question.now.fault c.args.depth (IsOne c.args.gate.0) c.args.facts.now r c.visit.new.facts) c.in-Gained.is c.in_ok-visit.ensures.round in
    (search rules, (rw c.in_ok-visit.ensures.keeps.numbers c.requires.numbers, (rw c.in_ok-visit.ensures.keeps.size c.requires.size, (h.0, (room_longer (net_of c.args.question.now.graph.now) c.args.watch.now c.visit.new.watch c.in_ok-visit.ensures.lengthens c.requires.room, (goods_keep c.args.watch.now c.visit.new.watch c.args.engine.now c.visit.new.engine c.args.facts.now c.visit.new.facts c.in_ok-visit.ensures.lengthens.first c.in_ok-visit.ensures.keeps c.requires.goods, (watching_known (net_of c.args.question.now.graph.now) c.args.question.now.fault (held_by c.args.facts.now) (held_by c.visit.new.facts) c.args.watch.now c.visit.new.watch c.in_ok-visit.ensures.all (c.in_ok-visit.ensures.known (gained_not_clash c.in_ok-visit.field-0 c.in-Gained.is)) c.requires.watching, c.requires.deep)))))))

pub visit_deep-returns-then-branch-clause-round : goal.visit_deep-returns-then-branch-clause-round
visit_deep-returns-then-branch-clause-round t c =
    let h : IsRound (net_of c.args.question.now.graph.now) c.args.question.now.fault c.args.depth (IsOne c.args.gate.0) c.args.facts.now Gained c.visit.new.facts = subst (λ (r : Round). IsRound (net_of c.args.question.now.graph.now) c.args.question.now.fault c.args.depth (IsOne c.args.gate.0) c.args.facts.now r c.visit.new.facts) c.in-Gained.is c.in_ok-visit.ensures.round in
    forced_clash (net_of c.args.question.now.graph.now) c.args.question.now.fault (suc c.args.depth) (held_by c.args.facts.now) (held_by c.visit.new.facts) h.1.0
    (clash_at_deeper (net_of c.args.question.now.graph.now) c.args.question.now.fault c.args.depth (suc c.args.depth) (held_by c.visit.new.facts) (omega arith) (subst (λ (b : Bool). IsLearned (net_of c.args.question.now.graph.now) c.args.question.now.fault c.args.depth (held_by c.visit.new.facts) b (held_by c.learn.new.facts)) c.if-branch.true c.in_ok-learn-in-Gained.ensures.learned))

pub visit_deep-returns-then-branch-clause-keeps : goal.visit_deep-returns-then-branch-clause-keeps
visit_deep-returns-then-branch-clause-keeps t c =
    keeps_join c.args.engine.now c.visit.new.engine c.learn.new.engine c.args.facts.now c.visit.new.facts c.learn.new.facts c.in_ok-visit.ensures.keeps c.in_ok-learn-in-Gained.ensures.keeps

pub visit_deep-returns-in-Quiet-clause-watching : goal.visit_deep-returns-in-Quiet-clause-watching
visit_deep-returns-in-Quiet-clause-watching t c ne =
    watching_known (net_of c.args.question.now.graph.now) c.args.question.now.fault (held_by c.args.facts.now) (held_by c.visit.new.facts) c.args.watch.now c.visit.new.watch c.in_ok-visit.ensures.all (c.in_ok-visit.ensures.known (quiet_not_clash c.in_ok-visit.field-0 c.in-Quiet.is)) c.requires.watching

pub visit_deep-returns-else-branch-clause-round : goal.visit_deep-returns-else-branch-clause-round
visit_deep-returns-else-branch-clause-round t c =
    let h : IsRound (net_of c.args.question.now.graph.now) c.args.question.now.fault c.args.depth (IsOne c.args.gate.0) c.args.facts.now Gained c.visit.new.facts = subst (λ (r : Round). IsRound (net_of c.args.question.now.graph.now) c.args.question.now.fault c.args.depth (IsOne c.args.gate.0) c.args.facts.now r c.visit.new.facts) c.in-Gained.is c.in_ok-visit.ensures.round in
    let l : IsLearned (net_of c.args.question.now.graph.now) c.args.question.now.fault c.args.depth (held_by c.visit.new.facts) false (held_by c.learn.new.facts) = subst (λ (b : Bool). IsLearned (net_of c.args.question.now.graph.now) c.args.question.now.fault c.args.depth (held_by c.visit.new.facts) b (held_by c.learn.new.facts)) c.if-branch.false c.in_ok-learn-in-Gained.ensures.learned in
    let less : missing c.learn.new.facts ≤ missing c.visit.new.facts = missing_within c.visit.new.facts c.learn.new.facts c.in_ok-learn-in-Gained.ensures.keeps.size c.in_ok-learn-in-Gained.ensures.keeps.more in
    let fewer : missing c.visit.new.facts < missing c.args.facts.now = h.1.1 in
    (l.1, (forced_join (net_of c.args.question.now.graph.now) c.args.question.now.fault (suc c.args.depth) (held_by c.args.facts.now) (held_by c.visit.new.facts) (held_by c.learn.new.facts) h.1.0 (forced_at_deeper (net_of c.args.question.now.graph.now) c.args.question.now.fault c.args.depth (suc c.args.depth) (held_by c.visit.new.facts) (held_by c.learn.new.facts) (omega arith) l.0.least), lt_of (missing c.learn.new.facts) (missing c.visit.new.facts) (missing c.args.facts.now) less fewer))

pub visit_deep-returns-else-branch-clause-keeps : goal.visit_deep-returns-else-branch-clause-keeps
visit_deep-returns-else-branch-clause-keeps t c =
    keeps_join c.args.engine.now c.visit.new.engine c.learn.new.engine c.args.facts.now c.visit.new.facts c.learn.new.facts c.in_ok-visit.ensures.keeps c.in_ok-learn-in-Gained.ensures.keeps

-- VISIT

pub visit-returns-in_default-clause-round : goal.visit-returns-in_default-clause-round
visit-returns-in_default-clause-round t c =
    (c.in_ok-justified.ensures.same, λ y is. subst (HasTaught (net_of c.args.question.now.graph.now) c.args.question.now.fault c.args.depth (held_by c.args.facts.now)) (sym is) (subst (Teaches (net_of c.args.question.now.graph.now) c.args.question.now.fault c.args.depth (held_by c.args.facts.now) c.args.gate.0) c.in_default.is c.in_ok-justified.ensures.justified))

pub visit-returns-in_default-clause-known : goal.visit-returns-in_default-clause-known
visit-returns-in_default-clause-known t c ne y known =
    rw c.in_ok-justified.ensures.same (known_longer (net_of c.args.question.now.graph.now) c.args.question.now.fault (held_by c.args.facts.now) c.args.watch.now c.justified_at.new.watch c.in_ok-justified.ensures.leaves y known)

pub visit-returns-in_default-clause-stays : goal.visit-returns-in_default-clause-stays
visit-returns-in_default-clause-stays t c e zero unknown =
    rw c.in_ok-justified.ensures.same (c.in_ok-justified.ensures.stays c.in_default.is zero unknown)

pub visit-returns-then-not-justified-clause-round : goal.visit-returns-then-not-justified-clause-round
visit-returns-then-not-justified-clause-round t c =
    visit_clash (net_of c.args.question.now.graph.now) c.args.question.now.fault c.args.depth (held_by c.args.facts.now) c.args.gate.0 c.in-Some.justified.value (map (λ n. n.0) c.in-Some.justified.drivers.items) c.in-Some.justified.found c.in-Some.justified.goods.items (subst (Teaches (net_of c.args.question.now.graph.now) c.args.question.now.fault c.args.depth (held_by c.args.facts.now) c.args.gate.0) c.in-Some.is c.in_ok-justified.ensures.justified) c.if-not-justified.true

pub visit-gain-requires-clause-new : goal.visit-gain-requires-clause-new
visit-gain-requires-clause-new t c =
    let l : IsJustified (net_of c.args.question.now.graph.now) c.args.question.now.fault c.args.depth (held_by c.args.facts.now) c.args.gate.0 c.in-Some.justified.value (map (λ n. n.0) c.in-Some.justified.drivers.items) c.in-Some.justified.found c.in-Some.justified.goods.items = (subst (Teaches (net_of c.args.question.now.graph.now) c.args.question.now.fault c.args.depth (held_by c.args.facts.now) c.args.gate.0) c.in-Some.is c.in_ok-justified.ensures.justified) in
    rw (c.deref.ensures.value, c.in_ok-justified.ensures.same) (l.new c.if-not-justified.false)

pub visit-returns-then-branch-clause-round : goal.visit-returns-then-branch-clause-round
visit-returns-then-branch-clause-round t c =
    let l : IsJustified (net_of c.args.question.now.graph.now) c.args.question.now.fault c.args.depth (held_by c.args.facts.now) c.args.gate.0 c.in-Some.justified.value (map (λ n. n.0) c.in-Some.justified.drivers.items) c.in-Some.justified.found c.in-Some.justified.goods.items = (subst (Teaches (net_of c.args.question.now.graph.now) c.args.question.now.fault c.args.depth (held_by c.args.facts.now) c.args.gate.0) c.in-Some.is c.in_ok-justified.ensures.justified) in
    let g : IsGained (net_of c.args.question.now.graph.now) c.args.question.now.fault c.in-Some.justified.goods.items c.args.facts.now true c.gain.new.facts =
    subst (λ (f : List NodeFacts). IsGained (net_of c.args.question.now.graph.now) c.args.question.now.fault c.in-Some.justified.goods.items f true c.gain.new.facts) c.in_ok-justified.ensures.same
    (subst (λ (goods : List GoodValue). IsGained (net_of c.args.question.now.graph.now) c.args.question.now.fault goods c.justified_at.new.facts true c.gain.new.facts) c.deref.ensures.value
    (subst (λ (b : Bool). IsGained (net_of c.args.question.now.graph.now) c.args.question.now.fault c.deref.result.now c.justified_at.new.facts b c.gain.new.facts) c.if-branch.true c.in_ok-gain.ensures.gained)) in
    visit_gain_clash (net_of c.args.question.now.graph.now) c.args.question.now.fault c.args.depth c.args.gate.0 c.in-Some.justified.value (map (λ n. n.0) c.in-Some.justified.drivers.items) c.in-Some.justified.found c.in-Some.justified.goods.items c.args.facts.now c.gain.new.facts l c.if-not-justified.false g

pub visit-returns-then-branch-clause-keeps : goal.visit-returns-then-branch-clause-keeps
visit-returns-then-branch-clause-keeps t c =
    keeps_join c.args.engine.now c.justified_at.new.engine c.gain.new.engine c.args.facts.now c.justified_at.new.facts c.gain.new.facts c.in_ok-justified.ensures.keeps c.in_ok-gain.ensures.keeps

pub visit-added_facts-requires : goal.visit-added_facts-requires
visit-added_facts-requires t c =
    let h : LeadsBack c.gain.new.engine.trail c.mark-mark.result c.gain.new.facts c.justified_at.new.facts = c.in_ok-gain.ensures.keeps.back c.mark-mark.result c.justified_at.new.facts (c.mark-mark.ensures.back c.justified_at.new.facts) in
    h.order

pub visit-returns-clause-round : goal.visit-returns-clause-round
visit-returns-clause-round t c =
    let l : IsJustified (net_of c.args.question.now.graph.now) c.args.question.now.fault c.args.depth (held_by c.args.facts.now) c.args.gate.0 c.in-Some.justified.value (map (λ n. n.0) c.in-Some.justified.drivers.items) c.in-Some.justified.found c.in-Some.justified.goods.items = (subst (Teaches (net_of c.args.question.now.graph.now) c.args.question.now.fault c.args.depth (held_by c.args.facts.now) c.args.gate.0) c.in-Some.is c.in_ok-justified.ensures.justified) in
    let g : IsGained (net_of c.args.question.now.graph.now) c.args.question.now.fault c.in-Some.justified.goods.items c.args.facts.now false c.gain.new.facts =
    subst (λ (f : List NodeFacts). IsGained (net_of c.args.question.now.graph.now) c.args.question.now.fault c.in-Some.justified.goods.items f false c.gain.new.facts) c.in_ok-justified.ensures.same
    (subst (λ (goods : List GoodValue). IsGained (net_of c.args.question.now.graph.now) c.args.question.now.fault goods c.justified_at.new.facts false c.gain.new.facts) c.deref.ensures.value
    (subst (λ (b : Bool). IsGained (net_of c.args.question.now.graph.now) c.args.question.now.fault c.deref.result.now c.justified_at.new.facts b c.gain.new.facts) c.if-branch.false c.in_ok-gain.ensures.gained)) in
    visit_gain (net_of c.args.question.now.graph.now) c.args.question.now.fault c.args.depth c.args.gate.0 c.in-Some.justified.value (map (λ n. n.0) c.in-Some.justified.drivers.items) c.in-Some.justified.found c.in-Some.justified.goods.items (IsOne c.args.gate.0) c.args.facts.now c.gain.new.facts l c.if-not-justified.false g

pub visit-returns-clause-keeps : goal.visit-returns-clause-keeps
visit-returns-clause-keeps t c =
    keeps_join c.args.engine.now c.justified_at.new.engine c.gain.new.engine c.args.facts.now c.justified_at.new.facts c.gain.new.facts c.in_ok-justified.ensures.keeps c.in_ok-gain.ensures.keeps

pub visit-returns-clause-known : goal.visit-returns-clause-known
visit-returns-clause-known t c ne y known =
    let l : IsJustified (net_of c.args.question.now.graph.now) c.args.question.now.fault c.args.depth (held_by c.args.facts.now) c.args.gate.0 c.in-Some.justified.value (map (λ n. n.0) c.in-Some.justified.drivers.items) c.in-Some.justified.found c.in-Some.justified.goods.items = (subst (Teaches (net_of c.args.question.now.graph.now) c.args.question.now.fault c.args.depth (held_by c.args.facts.now) c.args.gate.0) c.in-Some.is c.in_ok-justified.ensures.justified) in
    let g : IsGained (net_of c.args.question.now.graph.now) c.args.question.now.fault c.in-Some.justified.goods.items c.args.facts.now false c.gain.new.facts =
    subst (λ (f : List NodeFacts). IsGained (net_of c.args.question.now.graph.now) c.args.question.now.fault c.in-Some.justified.goods.items f false c.gain.new.facts) c.in_ok-justified.ensures.same
    (subst (λ (goods : List GoodValue). IsGained (net_of c.args.question.now.graph.now) c.args.question.now.fault goods c.justified_at.new.facts false c.gain.new.facts) c.deref.ensures.value
    (subst (λ (b : Bool). IsGained (net_of c.args.question.now.graph.now) c.args.question.now.fault c.deref.result.now c.justified_at.new.facts b c.gain.new.facts) c.if-branch.false c.in_ok-gain.ensures.gained)) in
    let h : LeadsBack c.gain.new.engine.trail c.mark-mark.result c.gain.new.facts c.justified_at.new.facts = c.in_ok-gain.ensures.keeps.back c.mark-mark.result c.justified_at.new.facts (c.mark-mark.ensures.back c.justified_at.new.facts) in
    let same : c.justified_at.new.facts ≡ c.args.facts.now = c.in_ok-justified.ensures.same in
    let added : AreAdded c.added_facts.result.now c.args.facts.now c.gain.new.facts =
    rw c.added_facts.ensures (subst (λ (f : List NodeFacts). AreAdded (drop c.mark-mark.result c.gain.new.engine.trail) f c.gain.new.facts) same
    (trail_tells c.gain.new.engine.trail c.mark-mark.result c.gain.new.facts c.justified_at.new.facts h)) in
    known_more (net_of c.args.question.now.graph.now) c.args.question.now.fault (held_by c.args.facts.now) (held_by c.gain.new.facts) c.added_facts.result.now c.justified_at.new.watch c.list_changed.new.self g.0 (subst (λ (f : List NodeFacts). IsWithin (held_by f) (held_by c.gain.new.facts)) same c.in_ok-gain.ensures.keeps.more) added.all c.list_changed.ensures.still c.list_changed.ensures.changed y
    (known_longer (net_of c.args.question.now.graph.now) c.args.question.now.fault (held_by c.args.facts.now) c.args.watch.now c.justified_at.new.watch c.in_ok-justified.ensures.leaves y known)

pub visit-list_changed-requires : goal.visit-list_changed-requires
visit-list_changed-requires t c =
    room_leaves (net_of c.args.question.now.graph.now) c.args.watch.now c.justified_at.new.watch c.in_ok-justified.ensures.leaves c.requires.room

pub visit-returns-then-not-justified-clause-lengthens : goal.visit-returns-then-not-justified-clause-lengthens
visit-returns-then-not-justified-clause-lengthens t c =
    lengthens_leaves c.args.watch.now c.justified_at.new.watch c.in_ok-justified.ensures.leaves

pub visit-returns-then-branch-clause-lengthens : goal.visit-returns-then-branch-clause-lengthens
visit-returns-then-branch-clause-lengthens t c =
    lengthens_leaves c.args.watch.now c.justified_at.new.watch c.in_ok-justified.ensures.leaves

pub visit-returns-clause-lengthens : goal.visit-returns-clause-lengthens
visit-returns-clause-lengthens t c =
    lengthens_join c.args.watch.now c.justified_at.new.watch c.list_changed.new.self (lengthens_leaves c.args.watch.now c.justified_at.new.watch c.in_ok-justified.ensures.leaves) (lengthens_still c.justified_at.new.watch c.list_changed.new.self c.list_changed.ensures.still)

-- LESSON

pub justified_at-in_common-requires : goal.justified_at-in_common-requires
justified_at-in_common-requires t c =
    let just : AreJustifications (net_of c.args.question.now.graph.now) (held_by c.args.facts.now) c.args.gate.0 (map (λ n. n.0) c.in-Some-2.drivers.items) = subst (λ (o : Option (Vec NodeId Global)). MatchOption o (HasFew (net_of c.args.question.now.graph.now) (held_by c.args.facts.now) c.args.gate.0 → ⊥) (λ v. AreJustifications (net_of c.args.question.now.graph.now) (held_by c.args.facts.now) c.args.gate.0 (map (λ n. n.0) v.items))) c.in-Some-2.is c.in_ok-drivers.ensures in
    let below : c.args.gate.0 < length (net_of c.args.question.now.graph.now).nodes = junction_below (net_of c.args.question.now.graph.now) c.args.gate.0 c.in-Some.value c.in-Some.ensures.0 in
    (search rules, (c.requires.numbers, (c.requires.size, (c.requires.settled, (c.requires.room, (c.requires.goods, (c.requires.watching, (c.requires.none, (omega (arith, c.requires.room.places), λ k d at. let one = just.each k d (rw c.deref.ensures.value at at) in (driver_live (net_of c.args.question.now.graph.now) c.well_formed-2.ensures.net c.args.gate.0 one.0.0 d one.0.1, one.1))))))))))

pub justified_at-returns-then-is_empty-2-clause-justified : goal.justified_at-returns-then-is_empty-2-clause-justified
justified_at-returns-then-is_empty-2-clause-justified t c =
    let just : AreJustifications (net_of c.args.question.now.graph.now) (held_by c.args.facts.now) c.args.gate.0 (map (λ n. n.0) c.in-Some-2.drivers.items) = subst (λ (o : Option (Vec NodeId Global)). MatchOption o (HasFew (net_of c.args.question.now.graph.now) (held_by c.args.facts.now) c.args.gate.0 → ⊥) (λ v. AreJustifications (net_of c.args.question.now.graph.now) (held_by c.args.facts.now) c.args.gate.0 (map (λ n. n.0) v.items))) c.in-Some-2.is c.in_ok-drivers.ensures in
    let found : AreFound (net_of c.args.question.now.graph.now) c.args.question.now.fault c.args.depth (held_by c.args.facts.now) c.in-Some.value (map (λ n. n.0) c.in-Some-2.drivers.items) c.in_ok-common.common.found c.in_ok-common.common.goods.items = subst (λ (ds : List NodeId). AreFound (net_of c.args.question.now.graph.now) c.args.question.now.fault c.args.depth (held_by c.args.facts.now) c.in-Some.value (map (λ n. n.0) ds) c.in_ok-common.common.found c.in_ok-common.common.goods.items) c.deref.ensures.value c.in_ok-common.ensures.found in
    taught_nothing (net_of c.args.question.now.graph.now) c.args.question.now.fault c.args.depth (held_by c.args.facts.now) c.args.gate.0 c.in-Some.value (map (λ n. n.0) c.in-Some-2.drivers.items) c.in-Some.ensures.1.0 just (found.1.0 c.if-common.true (empty_is c.in_ok-common.common.goods c.if-is_empty-2.ensures))

pub justified_at-returns-then-is_empty-2-clause-stays : goal.justified_at-returns-then-is_empty-2-clause-stays
justified_at-returns-then-is_empty-2-clause-stays t c e zero unknown =
    let just : AreJustifications (net_of c.args.question.now.graph.now) (held_by c.args.facts.now) c.args.gate.0 (map (λ n. n.0) c.in-Some-2.drivers.items) = subst (λ (o : Option (Vec NodeId Global)). MatchOption o (HasFew (net_of c.args.question.now.graph.now) (held_by c.args.facts.now) c.args.gate.0 → ⊥) (λ v. AreJustifications (net_of c.args.question.now.graph.now) (held_by c.args.facts.now) c.args.gate.0 (map (λ n. n.0) v.items))) c.in-Some-2.is c.in_ok-drivers.ensures in
    let region : HasRegion (net_of c.args.question.now.graph.now) c.args.question.now.fault (held_by c.args.facts.now) c.in-Some.value (map (λ n. n.0) c.in-Some-2.drivers.items) c.in_common.new.watch.rests.entries c.args.gate.0 =
    subst (λ (ds : List NodeId). HasRegion (net_of c.args.question.now.graph.now) c.args.question.now.fault (held_by c.args.facts.now) c.in-Some.value (map (λ n. n.0) ds) c.in_common.new.watch.rests.entries c.args.gate.0) c.deref.ensures.value
    (c.in_ok-common.ensures.region c.if-common.true (empty_is c.in_ok-common.common.goods c.if-is_empty-2.ensures) zero unknown) in
    region_stays c.lines_are_local.ensures.local c.lines_are_local.ensures.first (net_of c.args.question.now.graph.now) c.args.question.now.fault (held_by c.args.facts.now) c.args.gate.0 c.in-Some.value (map (λ n. n.0) c.in-Some-2.drivers.items) c.in_common.new.watch.rests.entries c.requires.settled c.in-Some.ensures.1.0 just region

pub justified_at-returns-clause-justified : goal.justified_at-returns-clause-justified
justified_at-returns-clause-justified t c =
    let just : AreJustifications (net_of c.args.question.now.graph.now) (held_by c.args.facts.now) c.args.gate.0 (map (λ n. n.0) c.in-Some-2.drivers.items) = subst (λ (o : Option (Vec NodeId Global)). MatchOption o (HasFew (net_of c.args.question.now.graph.now) (held_by c.args.facts.now) c.args.gate.0 → ⊥) (λ v. AreJustifications (net_of c.args.question.now.graph.now) (held_by c.args.facts.now) c.args.gate.0 (map (λ n. n.0) v.items))) c.in-Some-2.is c.in_ok-drivers.ensures in
    let found : AreFound (net_of c.args.question.now.graph.now) c.args.question.now.fault c.args.depth (held_by c.args.facts.now) c.in-Some.value (map (λ n. n.0) c.in-Some-2.drivers.items) c.in_ok-common.common.found c.in_ok-common.common.goods.items = subst (λ (ds : List NodeId). AreFound (net_of c.args.question.now.graph.now) c.args.question.now.fault c.args.depth (held_by c.args.facts.now) c.in-Some.value (map (λ n. n.0) ds) c.in_ok-common.common.found c.in_ok-common.common.goods.items) c.deref.ensures.value c.in_ok-common.ensures.found in
    justified_of (net_of c.args.question.now.graph.now) c.args.question.now.fault c.args.depth (held_by c.args.facts.now) c.args.gate.0 c.in-Some.value (map (λ n. n.0) c.in-Some-2.drivers.items) c.in_ok-common.common.found c.in_ok-common.common.goods.items c.in-Some.ensures.0 c.in-Some.ensures.1.0 c.in-Some.ensures.1.1 just
    (map_some (λ (n : NodeId). n.0) c.in-Some-2.drivers.items (full_is c.in-Some-2.drivers c.if-is_empty.ensures)) found
    (λ some. elim c.else-common.branch [
      | justified_at-else-common-via-then-common+else-is_empty-2 w ↦ full_is c.in_ok-common.common.goods w.if-is_empty-2.ensures
      | justified_at-else-common-via-else-common w ↦ absurd (true_false c.in_ok-common.common.found some w.if-common.false)
    ])

pub justified_at-returns-in_default-clause-stays : goal.justified_at-returns-in_default-clause-stays
justified_at-returns-in_default-clause-stays t c e zero unknown =
    stays_idle (net_of c.args.question.now.graph.now) c.args.question.now.fault (held_by c.args.facts.now) c.args.watch.now.rests.entries c.args.gate.0 (λ value u few. c.in_default.ensures value u)

pub justified_at-returns-in_default-2-clause-stays : goal.justified_at-returns-in_default-2-clause-stays
justified_at-returns-in_default-2-clause-stays t c e zero unknown =
    let many : HasFew (net_of c.args.question.now.graph.now) (held_by c.args.facts.now) c.args.gate.0 → ⊥ = subst (λ (o : Option (Vec NodeId Global)). MatchOption o (HasFew (net_of c.args.question.now.graph.now) (held_by c.args.facts.now) c.args.gate.0 → ⊥) (λ v. AreJustifications (net_of c.args.question.now.graph.now) (held_by c.args.facts.now) c.args.gate.0 (map (λ n. n.0) v.items))) c.in_default-2.is c.in_ok-drivers.ensures in
    stays_idle (net_of c.args.question.now.graph.now) c.args.question.now.fault (held_by c.args.facts.now) c.args.watch.now.rests.entries c.args.gate.0 (λ value u few. many few)

-- ONE MORE

pub one_more-take_back-requires : goal.one_more-take_back-requires
one_more-take_back-requires t c =
    let h : LeadsBack c.take.new.engine.trail c.mark-mark.result c.take.new.facts c.args.facts.now = c.in_ok-take.ensures.keeps.back c.mark-mark.result c.args.facts.now (c.mark-mark.ensures.back c.args.facts.now) in
    h.order

pub one_more-added_facts-requires : goal.one_more-added_facts-requires
one_more-added_facts-requires t c =
    let h : LeadsBack c.take.new.engine.trail c.mark-mark.result c.take.new.facts c.args.facts.now = c.in_ok-take.ensures.keeps.back c.mark-mark.result c.args.facts.now (c.mark-mark.ensures.back c.args.facts.now) in
    h.order

pub one_more-added_facts-requires-2 : goal.one_more-added_facts-requires-2
one_more-added_facts-requires-2 t c =
    let h : LeadsBack c.take.new.engine.trail c.mark-mark.result c.take.new.facts c.args.facts.now = c.in_ok-take.ensures.keeps.back c.mark-mark.result c.args.facts.now (c.mark-mark.ensures.back c.args.facts.now) in
    h.order

pub one_more-take_back-requires-2 : goal.one_more-take_back-requires-2
one_more-take_back-requires-2 t c =
    let h : LeadsBack c.take.new.engine.trail c.mark-mark.result c.take.new.facts c.args.facts.now = c.in_ok-take.ensures.keeps.back c.mark-mark.result c.args.facts.now (c.mark-mark.ensures.back c.args.facts.now) in
    h.order

pub one_more-returns-then-branch-clause-common : goal.one_more-returns-then-branch-clause-common
one_more-returns-then-branch-clause-common t c ds n there common =
    let clash : LeadsToClash (net_of c.args.question.now.graph.now) c.args.question.now.fault c.args.depth (with_fact (held_by c.args.facts.now) c.args.assumed.node.0 (Good c.args.assumed.value)) = subst (λ (b : Bool). IsLearned (net_of c.args.question.now.graph.now) c.args.question.now.fault c.args.depth (with_fact (held_by c.args.facts.now) c.args.assumed.node.0 (Good c.args.assumed.value)) b (held_by c.take.new.facts)) c.if-branch.true c.in_ok-take.ensures.learned in
    common_clash (net_of c.args.question.now.graph.now) c.args.question.now.fault c.args.depth (held_by c.args.facts.now) c.args.assumed.value ds n c.args.before.found c.args.before.goods.items c.args.assumed.node.0 common there clash

pub one_more-returns-then-branch-clause-same : goal.one_more-returns-then-branch-clause-same
one_more-returns-then-branch-clause-same t c =
    (taken_back c.args.engine.now c.take.new.engine c.take_back.new.self c.mark-mark.result c.args.facts.now c.take.new.facts c.take_back.new.facts c.mark-mark.ensures.mark (c.mark-mark.ensures.back c.args.facts.now) c.in_ok-take.ensures.keeps c.take_back.ensures.back c.take_back.ensures.earlier c.take_back.ensures.numbers).0

pub one_more-returns-then-branch-clause-keeps : goal.one_more-returns-then-branch-clause-keeps
one_more-returns-then-branch-clause-keeps t c =
    (taken_back c.args.engine.now c.take.new.engine c.take_back.new.self c.mark-mark.result c.args.facts.now c.take.new.facts c.take_back.new.facts c.mark-mark.ensures.mark (c.mark-mark.ensures.back c.args.facts.now) c.in_ok-take.ensures.keeps c.take_back.ensures.back c.take_back.ensures.earlier c.take_back.ensures.numbers).1

pub one_more-returns-then-branch-clause-covered : goal.one_more-returns-then-branch-clause-covered
one_more-returns-then-branch-clause-covered t c zero unknown open' =
    let clash : LeadsToClash (net_of c.args.question.now.graph.now) c.args.question.now.fault c.args.depth (with_fact (held_by c.args.facts.now) c.args.assumed.node.0 (Good c.args.assumed.value)) = subst (λ (b : Bool). IsLearned (net_of c.args.question.now.graph.now) c.args.question.now.fault c.args.depth (with_fact (held_by c.args.facts.now) c.args.assumed.node.0 (Good c.args.assumed.value)) b (held_by c.take.new.facts)) c.if-branch.true c.in_ok-take.ensures.learned in
    absurd (open' (subst (λ (n : ℕ). LeadsToClash (net_of c.args.question.now.graph.now) c.args.question.now.fault n (with_fact (held_by c.args.facts.now) c.args.assumed.node.0 (Good c.args.assumed.value))) zero clash))

pub one_more-returns-clause-common : goal.one_more-returns-clause-common
one_more-returns-clause-common t c ds n there common =
    let h : LeadsBack c.take.new.engine.trail c.mark-mark.result c.take.new.facts c.args.facts.now = c.in_ok-take.ensures.keeps.back c.mark-mark.result c.args.facts.now (c.mark-mark.ensures.back c.args.facts.now) in
    let learned : IsLearned (net_of c.args.question.now.graph.now) c.args.question.now.fault c.args.depth (with_fact (held_by c.args.facts.now) c.args.assumed.node.0 (Good c.args.assumed.value)) false (held_by c.take.new.facts) = subst (λ (b : Bool). IsLearned (net_of c.args.question.now.graph.now) c.args.question.now.fault c.args.depth (with_fact (held_by c.args.facts.now) c.args.assumed.node.0 (Good c.args.assumed.value)) b (held_by c.take.new.facts)) c.if-branch.false c.in_ok-take.ensures.learned in
    let added : AreAdded c.added_facts.result.now c.args.facts.now c.take.new.facts = rw c.added_facts.ensures (trail_tells c.take.new.engine.trail c.mark-mark.result c.take.new.facts c.args.facts.now h) in
    rw c.in_ok-more.ensures.found (common_open (net_of c.args.question.now.graph.now) c.args.question.now.fault c.args.depth (held_by c.args.facts.now) c.args.assumed.value ds n c.args.assumed.node.0 there c.take.new.facts c.added_facts.result.now learned.0 learned.1 c.in_ok-take.ensures.keeps.more added.new added.all c.args.before.found c.args.before.goods.items c.in_ok-more.more.goods.items common c.in_ok-more.ensures.goods)

pub one_more-returns-clause-same : goal.one_more-returns-clause-same
one_more-returns-clause-same t c =
    (taken_back c.args.engine.now c.take.new.engine c.take_back-2.new.self c.mark-mark.result c.args.facts.now c.take.new.facts c.take_back-2.new.facts c.mark-mark.ensures.mark (c.mark-mark.ensures.back c.args.facts.now) c.in_ok-take.ensures.keeps c.take_back-2.ensures.back c.take_back-2.ensures.earlier c.take_back-2.ensures.numbers).0

pub one_more-returns-clause-keeps : goal.one_more-returns-clause-keeps
one_more-returns-clause-keeps t c =
    (taken_back c.args.engine.now c.take.new.engine c.take_back-2.new.self c.mark-mark.result c.args.facts.now c.take.new.facts c.take_back-2.new.facts c.mark-mark.ensures.mark (c.mark-mark.ensures.back c.args.facts.now) c.in_ok-take.ensures.keeps c.take_back-2.ensures.back c.take_back-2.ensures.earlier c.take_back-2.ensures.numbers).1

pub one_more-returns-clause-covered : goal.one_more-returns-clause-covered
one_more-returns-clause-covered t c zero unknown open' =
    let h : LeadsBack c.take.new.engine.trail c.mark-mark.result c.take.new.facts c.args.facts.now = c.in_ok-take.ensures.keeps.back c.mark-mark.result c.args.facts.now (c.mark-mark.ensures.back c.args.facts.now) in
    let learned : IsLearned (net_of c.args.question.now.graph.now) c.args.question.now.fault c.args.depth (with_fact (held_by c.args.facts.now) c.args.assumed.node.0 (Good c.args.assumed.value)) false (held_by c.take.new.facts) = subst (λ (b : Bool). IsLearned (net_of c.args.question.now.graph.now) c.args.question.now.fault c.args.depth (with_fact (held_by c.args.facts.now) c.args.assumed.node.0 (Good c.args.assumed.value)) b (held_by c.take.new.facts)) c.if-branch.false c.in_ok-take.ensures.learned in
    let added : AreAdded c.added_facts-2.result.now c.args.facts.now c.take.new.facts = rw c.added_facts-2.ensures (trail_tells c.take.new.engine.trail c.mark-mark.result c.take.new.facts c.args.facts.now h) in (
      held_by c.take.new.facts,
      (
        subst (λ (n : ℕ). IsLeastAt (net_of c.args.question.now.graph.now) c.args.question.now.fault n (with_fact (held_by c.args.facts.now) c.args.assumed.node.0 (Good c.args.assumed.value)) (held_by c.take.new.facts)) zero learned.0,
        (
          c.in_ok-take.ensures.keeps.more,
          region_covers (net_of c.args.question.now.graph.now) c.args.question.now.fault (held_by c.args.facts.now) (held_by c.take.new.facts) c.added_facts-2.result.now c.rest_on_region.new.self.rests.entries c.args.gate.0 learned.1 c.in_ok-take.ensures.keeps.more added.all (c.in_ok-rest_on_region.ensures.region zero (c.in_ok-take.ensures.leaves.all ∙ unknown)),
        ),
      ),
    )

-- TAKE

pub take-added_facts-requires : goal.take-added_facts-requires
take-added_facts-requires t c =
    let h : LeadsBack c.add.new.engine.trail c.mark-start.result c.add.new.facts c.args.facts.now = c.in_ok-add.ensures.keeps.back c.mark-start.result c.args.facts.now (c.mark-start.ensures.back c.args.facts.now) in
    h.order

pub take-learn-requires : goal.take-learn-requires
take-learn-requires t c =
    let h : LeadsBack c.add.new.engine.trail c.mark-start.result c.add.new.facts c.args.facts.now = c.in_ok-add.ensures.keeps.back c.mark-start.result c.args.facts.now (c.mark-start.ensures.back c.args.facts.now) in
    let first : IsLearned (net_of c.args.question.now.graph.now) c.args.question.now.fault 0 (with_fact (held_by c.args.facts.now) c.args.assumed.node.0 (Good c.args.assumed.value)) false (held_by c.add.new.facts) = subst (λ (b : Bool). IsLearned (net_of c.args.question.now.graph.now) c.args.question.now.fault 0 (with_fact (held_by c.args.facts.now) c.args.assumed.node.0 (Good c.args.assumed.value)) b (held_by c.add.new.facts)) c.if-branch.false c.in_ok-add.ensures.learned in
    let added : AreAdded c.added_facts.result.now c.args.facts.now c.add.new.facts = rw c.added_facts.ensures (trail_tells c.add.new.engine.trail c.mark-start.result c.add.new.facts c.args.facts.now h) in
    let deep : 0 < c.args.depth = omega arith in
    (search rules, (rw c.in_ok-add.ensures.keeps.numbers c.requires.numbers, (rw c.in_ok-add.ensures.keeps.size c.requires.size, (first.1, (room_still (net_of c.args.question.now.graph.now) c.args.watch.now c.list_changed.new.self c.list_changed.ensures.still c.requires.room, (goods_keep c.args.watch.now c.list_changed.new.self c.args.engine.now c.add.new.engine c.args.facts.now c.add.new.facts c.list_changed.ensures.still.first c.in_ok-add.ensures.keeps (c.requires.goods deep), (watching_more (net_of c.args.question.now.graph.now) c.args.question.now.fault (held_by c.args.facts.now) (held_by c.add.new.facts) c.added_facts.result.now c.args.watch.now c.list_changed.new.self first.1 c.in_ok-add.ensures.keeps.more added.all c.list_changed.ensures.still c.list_changed.ensures.changed (c.requires.watching deep), deep)))))))

pub take-returns-clause-learned : goal.take-returns-clause-learned
take-returns-clause-learned t c =
    let first : IsLearned (net_of c.args.question.now.graph.now) c.args.question.now.fault 0 (with_fact (held_by c.args.facts.now) c.args.assumed.node.0 (Good c.args.assumed.value)) false (held_by c.add.new.facts) = subst (λ (b : Bool). IsLearned (net_of c.args.question.now.graph.now) c.args.question.now.fault 0 (with_fact (held_by c.args.facts.now) c.args.assumed.node.0 (Good c.args.assumed.value)) b (held_by c.add.new.facts)) c.if-branch.false c.in_ok-add.ensures.learned in
    learned_join (net_of c.args.question.now.graph.now) c.args.question.now.fault c.args.depth (with_fact (held_by c.args.facts.now) c.args.assumed.node.0 (Good c.args.assumed.value)) (held_by c.add.new.facts) c.in_ok-clash.clash (held_by c.learn.new.facts) first c.in_ok-clash.ensures.learned

pub take-returns-clause-keeps : goal.take-returns-clause-keeps
take-returns-clause-keeps t c =
    keeps_join c.args.engine.now c.add.new.engine c.learn.new.engine c.args.facts.now c.add.new.facts c.learn.new.facts c.in_ok-add.ensures.keeps c.in_ok-clash.ensures.keeps
