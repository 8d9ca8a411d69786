use Rattle.std.proofs.Common.{Bool, List, None, Some, [], ap, arith, false, get_or, length, map, not, refl, rules, subst, suc, sym, ◌++◌, ◌-◌, ◌<◌, ◌∙◌, ◌∷◌, ◌≡◌, ◌≢◌, ℕ}
use Rattle.std.proofs.lemmas.List.{length-map}
use Rattle.std.proofs.lemmas.Option.{slice_get-get_or, slice_get_within}
use Rattle.std.specs.Prelude.{slice_get}
use Rattle.std.proofs.Math.Bool.{not-not}
use Rattle.gate_graph.specs.Circuit.{net_of}
use Rattle.refutation.proofs.Public.{driver_live, known_held}
use Rattle.implications.specs.Bases.{IsListed}
use Rattle.implications.specs.Trail.{LeadsBack}
use Rattle.recursive_learning.proofs.Gains.{keeps_join}
use Rattle.recursive_learning.proofs.Holdings.{goods_keep, goods_named}
use Rattle.recursive_learning.proofs.Learns.{clashes_stay}
use Rattle.recursive_learning.proofs.Rounds.{taken_back}
use Rattle.recursive_learning.proofs.Splits.{beq_other, justified_cases, justified_opposite, may_split, no_driver, opposite_cases, split_told, told_ends}
use Rattle.recursive_learning.proofs.Vecs.{driver_at}
use Rattle.recursive_learning.proofs.Watches.{blank_leaves, leaves_join, leaves_none, room_leaves}
use Rattle.recursive_learning.proofs.Writes.{cases_more, going_ends, going_more, goods_more, pass_all, pass_fewer, pass_more, pass_none}
use Rattle.recursive_learning.specs.Inner.Holding.{NamesAll}
use Rattle.recursive_learning.specs.Inner.JustifiedValues.{IsJustified, Teaches}
use Rattle.recursive_learning.specs.Inner.Telling.{Ends, IsTold}
use Rattle.recursive_learning.specs.Inner.Working.{AreSettled, Keeps}
use Rattle.recursive_learning.specs.Inner.Writing.{IsPassed, IsWritten}
use Rattle.refutation.specs.FactSets.{held_by, missing}
use Rattle.refutation.specs.Facts.{known_good, with_fact}
use Rattle.refutation.specs.Learning.{LeadsToClash}
use Rattle.refutation.specs.declared.held.NodeFacts.{NodeFacts}
use Rattle.refutation.specs.declared.items.Item.{Item}
use Rattle.refutation.specs.declared.items.Item.TheVariants.{Split}
use Rattle.refutation.specs.declared.reasoning.Fact.{Fact}
use Rattle.refutation.specs.declared.reasoning.Fact.TheVariants.{Good}
use Rattle.rm_base.specs.declared.numbers.NodeId.{NodeId}
use Rattle.recursive_learning.proofs.writing.+writing.Goals as goal
use Rattle.recursive_learning.proofs.writing.+writing.Goals.{write_branches-else-not-branch, write_branches-then-not-branch+in_ok-write, write_split-else-not-branch, write_split-then-not-branch+in_ok-write_cases}

pub write-returns-then-depth-eq0-clause-ends : goal.write-returns-then-depth-eq0-clause-ends
write-returns-then-depth-eq0-clause-ends t c =
    absurd (subst (λ (n : ℕ). LeadsToClash (net_of c.args.question.now.graph.now) c.args.question.now.fault n (held_by c.args.facts.now)) c.if-depth-eq0.true c.requires.clash (held_by c.args.facts.now) (λ x fact e. e) c.requires.settled.free c.requires.settled.closed)

pub write-write_pass-requires : goal.write-write_pass-requires
write-write_pass-requires t c =
    let e : suc (c.args.depth - 1) ≡ c.args.depth = let deep : c.args.depth ≢ 0 = c.loop.invariant.deep in omega arith in
    (search rules, (rw c.loop.invariant.going.keeps.numbers c.requires.numbers, (rw c.loop.invariant.going.keeps.size c.requires.size, (c.loop.invariant.going.settled, (room_leaves (net_of c.args.question.now.graph.now) c.args.watch.now c.loop.watch c.loop.invariant.leaves c.requires.room, (goods_keep c.args.watch.now c.loop.watch c.args.engine.now c.loop.engine c.args.facts.now c.loop.facts c.loop.invariant.leaves.first c.loop.invariant.going.keeps c.requires.goods, (blank_leaves c.args.watch.now c.loop.watch c.loop.invariant.leaves c.requires.blank, subst (λ (n : ℕ). LeadsToClash (net_of c.args.question.now.graph.now) c.args.question.now.fault n (held_by c.loop.facts)) (sym e) c.loop.invariant.clash)))))))

pub write-loop-preserved : goal.write-loop-preserved
write-loop-preserved t c =
    record {
      going = going_more (net_of c.args.question.now.graph.now) c.args.question.now.fault c.args.engine.now c.loop.engine c.write_pass.new.engine c.args.facts.now c.loop.facts c.write_pass.new.facts c.args.tree.now c.loop.tree c.write_pass.new.tree c.loop.invariant.going c.in_ok-write_pass.ensures.keeps
          (subst (λ (b : Bool). IsTold (net_of c.args.question.now.graph.now) c.args.question.now.fault (held_by c.loop.facts) c.loop.tree b (held_by c.write_pass.new.facts) c.write_pass.new.tree) c.if-not-branch.true c.in_ok-write_pass.ensures.told);
      clash = clashes_stay (net_of c.args.question.now.graph.now) c.args.question.now.fault c.args.depth (held_by c.loop.facts) (held_by c.write_pass.new.facts) c.in_ok-write_pass.ensures.keeps.more c.loop.invariant.clash;
      deep = c.loop.invariant.deep;
      leaves = leaves_join c.args.watch.now c.loop.watch c.write_pass.new.watch c.loop.invariant.leaves c.in_ok-write_pass.ensures.leaves;
    }

pub write-returns-clause-ends : goal.write-returns-clause-ends
write-returns-clause-ends t c =
    going_ends (net_of c.args.question.now.graph.now) c.args.question.now.fault c.args.engine.now c.loop.engine c.args.facts.now c.loop.facts c.args.tree.now c.loop.tree c.write_pass.new.tree c.loop.invariant.going
    (subst (λ (b : Bool). IsTold (net_of c.args.question.now.graph.now) c.args.question.now.fault (held_by c.loop.facts) c.loop.tree b (held_by c.write_pass.new.facts) c.write_pass.new.tree) c.if-not-branch.false c.in_ok-write_pass.ensures.told)

pub write-returns-clause-keeps : goal.write-returns-clause-keeps
write-returns-clause-keeps t c =
    keeps_join c.args.engine.now c.loop.engine c.write_pass.new.engine c.args.facts.now c.loop.facts c.write_pass.new.facts c.loop.invariant.going.keeps c.in_ok-write_pass.ensures.keeps

pub write_pass-returns-clause-fewer : goal.write_pass-returns-clause-fewer
write_pass-returns-clause-fewer t c none =
    pass_fewer (net_of c.args.question.now.graph.now) c.args.question.now.fault c.args.depth (IsListed c.in_ok-gates.gates.items) c.args.facts.now c.write_each.new.facts
    (goods_named c.args.watch.now c.args.engine.now c.args.facts.now c.in_ok-gates.gates.items c.requires.goods (subst (λ (added : List (NodeId × Fact)). NamesAll c.args.watch.now added c.in_ok-gates.gates.items) c.added_facts.ensures c.in_ok-gates.ensures))
    (subst (λ (gates : List NodeId). IsPassed (net_of c.args.question.now.graph.now) c.args.question.now.fault c.args.depth (IsListed gates) c.args.facts.now c.write_each.new.facts) c.deref.ensures.value (c.in_ok-ended.ensures.passed none)) c.requires.settled c.requires.clash

pub write_each-loop-gate-init : goal.write_each-loop-gate-init
write_each-loop-gate-init t c =
    record {
      passing = pass_none (net_of c.args.question.now.graph.now) c.args.question.now.fault c.args.depth c.args.gates.now c.args.engine.now c.args.facts.now c.args.tree.now c.requires.settled;
      leaves = leaves_none c.args.watch.now;
    }

pub write_each-write_gate-requires : goal.write_each-write_gate-requires
write_each-write_gate-requires t c =
    (search rules, (rw c.loop-gate.invariant.passing.going.keeps.numbers c.requires.numbers, (rw c.loop-gate.invariant.passing.going.keeps.size c.requires.size, (c.loop-gate.invariant.passing.going.settled, (room_leaves (net_of c.args.question.now.graph.now) c.args.watch.now c.loop-gate.watch c.loop-gate.invariant.leaves c.requires.room, (goods_keep c.args.watch.now c.loop-gate.watch c.args.engine.now c.loop-gate.engine c.args.facts.now c.loop-gate.facts c.loop-gate.invariant.leaves.first c.loop-gate.invariant.passing.going.keeps c.requires.goods, blank_leaves c.args.watch.now c.loop-gate.watch c.loop-gate.invariant.leaves c.requires.blank))))))

pub write_each-loop-gate-preserved : goal.write_each-loop-gate-preserved
write_each-loop-gate-preserved t c =
    record {
      passing = pass_more (net_of c.args.question.now.graph.now) c.args.question.now.fault c.args.depth c.args.gates.now c.loop-gate.gate-index (get_or c.args.gates.now c.loop-gate.gate-index (record { 0 = 0 })) c.args.engine.now c.loop-gate.engine c.write_gate.new.engine c.args.facts.now c.loop-gate.facts c.write_gate.new.facts c.args.tree.now c.loop-gate.tree c.write_gate.new.tree (slice_get-get_or c.args.gates.now c.loop-gate.gate-index (record { 0 = 0 }) (omega arith)) c.loop-gate.invariant.passing c.in_ok-write_gate.ensures.keeps
          (subst (λ (b : Bool). IsWritten (net_of c.args.question.now.graph.now) c.args.question.now.fault c.args.depth (get_or c.args.gates.now c.loop-gate.gate-index (record { 0 = 0 })).0 c.loop-gate.facts c.loop-gate.tree b c.write_gate.new.facts c.write_gate.new.tree) c.if-branch.false c.in_ok-write_gate.ensures.written);
      leaves = leaves_join c.args.watch.now c.loop-gate.watch c.write_gate.new.watch c.loop-gate.invariant.leaves c.in_ok-write_gate.ensures.leaves;
    }

pub write_each-returns-then-branch-clause-told : goal.write_each-returns-then-branch-clause-told
write_each-returns-then-branch-clause-told t c =
    going_ends (net_of c.args.question.now.graph.now) c.args.question.now.fault c.args.engine.now c.loop-gate.engine c.args.facts.now c.loop-gate.facts c.args.tree.now c.loop-gate.tree c.write_gate.new.tree c.loop-gate.invariant.passing.going
    (subst (λ (b : Bool). IsWritten (net_of c.args.question.now.graph.now) c.args.question.now.fault c.args.depth (get_or c.args.gates.now c.loop-gate.gate-index (record { 0 = 0 })).0 c.loop-gate.facts c.loop-gate.tree b c.write_gate.new.facts c.write_gate.new.tree) c.if-branch.true c.in_ok-write_gate.ensures.written)

pub write_each-returns-then-branch-clause-keeps : goal.write_each-returns-then-branch-clause-keeps
write_each-returns-then-branch-clause-keeps t c =
    keeps_join c.args.engine.now c.loop-gate.engine c.write_gate.new.engine c.args.facts.now c.loop-gate.facts c.write_gate.new.facts c.loop-gate.invariant.passing.going.keeps c.in_ok-write_gate.ensures.keeps

pub write_each-returns-clause-told : goal.write_each-returns-clause-told
write_each-returns-clause-told t c = (c.loop-gate.invariant.passing.going.leads, c.loop-gate.invariant.passing.going.settled)

pub write_each-returns-clause-passed : goal.write_each-returns-clause-passed
write_each-returns-clause-passed t c none = pass_all (net_of c.args.question.now.graph.now) c.args.question.now.fault c.args.depth c.args.gates.now c.loop-gate.gate-index c.args.facts.now c.loop-gate.facts c.loop-gate-test.false c.loop-gate.invariant.passing.passed

pub write_gate-write_goods-requires : goal.write_gate-write_goods-requires
write_gate-write_goods-requires t c =
    let l : IsJustified (net_of c.args.question.now.graph.now) c.args.question.now.fault c.args.depth (held_by c.args.facts.now) c.args.gate.0 c.in-Some.justified.value (map (λ n. n.0) c.in-Some.justified.drivers.items) c.in-Some.justified.found c.in-Some.justified.goods.items = (subst (Teaches (net_of c.args.question.now.graph.now) c.args.question.now.fault c.args.depth (held_by c.args.facts.now) c.args.gate.0) c.in-Some.is c.in_ok-justified.ensures.justified) in
    (search rules, (rw c.in_ok-justified.ensures.keeps.numbers c.requires.numbers, (rw c.in_ok-justified.ensures.keeps.size c.requires.size, (rw c.in_ok-justified.ensures.same c.requires.settled, (room_leaves (net_of c.args.question.now.graph.now) c.args.watch.now c.justified_at.new.watch c.in_ok-justified.ensures.leaves c.requires.room, (goods_keep c.args.watch.now c.justified_at.new.watch c.args.engine.now c.justified_at.new.engine c.args.facts.now c.justified_at.new.facts c.in_ok-justified.ensures.leaves.first c.in_ok-justified.ensures.keeps c.requires.goods, (blank_leaves c.args.watch.now c.justified_at.new.watch c.in_ok-justified.ensures.leaves c.requires.blank, ((c.args.gate.0, rw c.in_ok-justified.ensures.same l), c.if-justified.true))))))))

pub write_branches-write-requires : goal.write_branches-write-requires
write_branches-write-requires t c =
    let settled : AreSettled (net_of c.args.question.now.graph.now) c.args.question.now.fault (held_by c.tell.new.facts) = (subst (λ (b : Bool). IsTold (net_of c.args.question.now.graph.now) c.args.question.now.fault (with_fact (held_by c.args.facts.now) c.args.assumed.node.0 (Good c.args.assumed.value)) c.push.new.self b (held_by c.tell.new.facts) c.tell.new.tree) c.if-not-branch.true c.in_ok-tell.ensures.told).1 in
    (search rules, (rw c.in_ok-tell.ensures.keeps.numbers c.requires.numbers, (rw c.in_ok-tell.ensures.keeps.size c.requires.size, (settled, (c.requires.room, (goods_keep c.args.watch.now c.args.watch.now c.args.engine.now c.tell.new.engine c.args.facts.now c.tell.new.facts refl c.in_ok-tell.ensures.keeps c.requires.goods, (c.requires.blank, c.requires.clash (held_by c.tell.new.facts) c.in_ok-tell.ensures.keeps.more (c.in_ok-tell.ensures.there c.if-not-branch.true))))))))

pub write_gate-returns-clause-keeps : goal.write_gate-returns-clause-keeps
write_gate-returns-clause-keeps t c =
    keeps_join c.args.engine.now c.justified_at.new.engine c.write_cases.new.engine c.args.facts.now c.justified_at.new.facts c.write_cases.new.facts c.in_ok-justified.ensures.keeps c.in_ok-write_cases.ensures.keeps

pub write_gate-returns-then-justified-clause-keeps : goal.write_gate-returns-then-justified-clause-keeps
write_gate-returns-then-justified-clause-keeps t c =
    keeps_join c.args.engine.now c.justified_at.new.engine c.write_goods.new.engine c.args.facts.now c.justified_at.new.facts c.write_goods.new.facts c.in_ok-justified.ensures.keeps c.in_ok-ended.ensures.keeps

pub write_gate-write_cases-requires : goal.write_gate-write_cases-requires
write_gate-write_cases-requires t c =
    let l : IsJustified (net_of c.args.question.now.graph.now) c.args.question.now.fault c.args.depth (held_by c.args.facts.now) c.args.gate.0 c.in-Some.justified.value (map (λ n. n.0) c.in-Some.justified.drivers.items) c.in-Some.justified.found c.in-Some.justified.goods.items = (subst (Teaches (net_of c.args.question.now.graph.now) c.args.question.now.fault c.args.depth (held_by c.args.facts.now) c.args.gate.0) c.in-Some.is c.in_ok-justified.ensures.justified) in (
      search rules,
      (
        rw c.in_ok-justified.ensures.keeps.numbers c.requires.numbers,
        (
          rw c.in_ok-justified.ensures.keeps.size c.requires.size,
          (
            rw c.in_ok-justified.ensures.same c.requires.settled,
            (
              room_leaves (net_of c.args.question.now.graph.now) c.args.watch.now c.justified_at.new.watch c.in_ok-justified.ensures.leaves c.requires.room,
              (goods_keep c.args.watch.now c.justified_at.new.watch c.args.engine.now c.justified_at.new.engine c.args.facts.now c.justified_at.new.facts c.in_ok-justified.ensures.leaves.first c.in_ok-justified.ensures.keeps c.requires.goods, (blank_leaves c.args.watch.now c.justified_at.new.watch c.in_ok-justified.ensures.leaves c.requires.blank, rw (c.deref.ensures.value, c.in_ok-justified.ensures.same) (justified_cases (net_of c.args.question.now.graph.now) c.args.question.now.fault c.args.depth (held_by c.args.facts.now) c.args.gate.0 c.in-Some.justified.value (map (λ n. n.0) c.in-Some.justified.drivers.items) c.in-Some.justified.found c.in-Some.justified.goods.items l c.if-justified.false))),
            ),
          ),
        ),
      ),
    )

pub write_goods-write_good-requires : goal.write_goods-write_good-requires
write_goods-write_good-requires t c =
    rw (c.deref.ensures.value, c.deref-good-items.ensures.value) (
      search rules,
      (
        rw c.loop-good.invariant.writing.going.keeps.numbers c.requires.numbers,
        (
          rw c.loop-good.invariant.writing.going.keeps.size c.requires.size,
          (
            c.loop-good.invariant.writing.going.settled,
            (
              room_leaves (net_of c.args.question.now.graph.now) c.args.watch.now c.loop-good.watch c.loop-good.invariant.leaves c.requires.room,
              (
                goods_keep c.args.watch.now c.loop-good.watch c.args.engine.now c.loop-good.engine c.args.facts.now c.loop-good.facts c.loop-good.invariant.leaves.first c.loop-good.invariant.writing.going.keeps c.requires.goods,
                (
                  blank_leaves c.args.watch.now c.loop-good.watch c.loop-good.invariant.leaves c.requires.blank,
                  (
                    (c.requires.justified.1.new c.requires.found c.loop-good.good-index (get_or c.args.justified.now.goods.items c.loop-good.good-index (record { node = record { 0 = 0 }; value = false })) (slice_get-get_or c.args.justified.now.goods.items c.loop-good.good-index (record { node = record { 0 = 0 }; value = false }) (omega (arith, ap length c.deref-good-items.ensures.value)))).live,
                    justified_opposite (net_of c.args.question.now.graph.now) c.args.question.now.fault c.args.depth (held_by c.args.facts.now) (held_by c.loop-good.facts) c.requires.justified.0 c.args.justified.now.value (map (λ n. n.0) c.args.justified.now.drivers.items) c.args.justified.now.found c.args.justified.now.goods.items c.loop-good.good-index (get_or c.args.justified.now.goods.items c.loop-good.good-index (record { node = record { 0 = 0 }; value = false })) c.requires.justified.1 c.requires.found (slice_get-get_or c.args.justified.now.goods.items c.loop-good.good-index (record { node = record { 0 = 0 }; value = false }) (omega (arith, ap length c.deref-good-items.ensures.value))) c.loop-good.invariant.writing.going.keeps.more c.loop-good.invariant.writing.going.settled.free,
                  ),
                ),
              ),
            ),
          ),
        ),
      ),
    )

pub write_goods-loop-good-preserved : goal.write_goods-loop-good-preserved
write_goods-loop-good-preserved t c =
    let fewer : known_good (held_by c.loop-good.facts) (get_or c.args.justified.now.goods.items c.loop-good.good-index (record { node = record { 0 = 0 }; value = false })).node.0 ≡ None → missing c.write_good.new.facts < missing c.loop-good.facts = rw c.deref-good-items.ensures.value at (c.in_ok-write_good.ensures.fewer c.if-branch.false) in
    record {
      writing = goods_more (net_of c.args.question.now.graph.now) c.args.question.now.fault c.loop-good.good-index c.args.engine.now c.loop-good.engine c.write_good.new.engine c.args.facts.now c.loop-good.facts c.write_good.new.facts c.args.tree.now c.loop-good.tree c.write_good.new.tree (get_or c.args.justified.now.goods.items c.loop-good.good-index (record { node = record { 0 = 0 }; value = false })).node.0 c.loop-good.invariant.writing (c.requires.justified.1.new c.requires.found c.loop-good.good-index (get_or c.args.justified.now.goods.items c.loop-good.good-index (record { node = record { 0 = 0 }; value = false })) (slice_get-get_or c.args.justified.now.goods.items c.loop-good.good-index (record { node = record { 0 = 0 }; value = false }) (omega (arith, ap length c.deref-good-items.ensures.value)))).unknown c.in_ok-write_good.ensures.keeps
          (subst (λ (b : Bool). IsTold (net_of c.args.question.now.graph.now) c.args.question.now.fault (held_by c.loop-good.facts) c.loop-good.tree b (held_by c.write_good.new.facts) c.write_good.new.tree) c.if-branch.false c.in_ok-write_good.ensures.told)
          (c.in_ok-write_good.ensures.less c.if-branch.false) fewer;
      leaves = leaves_join c.args.watch.now c.loop-good.watch c.write_good.new.watch c.loop-good.invariant.leaves c.in_ok-write_good.ensures.leaves;
    }

pub write_goods-returns-then-branch-clause-keeps : goal.write_goods-returns-then-branch-clause-keeps
write_goods-returns-then-branch-clause-keeps t c =
    keeps_join c.args.engine.now c.loop-good.engine c.write_good.new.engine c.args.facts.now c.loop-good.facts c.write_good.new.facts c.loop-good.invariant.writing.going.keeps c.in_ok-write_good.ensures.keeps

pub write_goods-returns-then-branch-clause-told : goal.write_goods-returns-then-branch-clause-told
write_goods-returns-then-branch-clause-told t c =
    going_ends (net_of c.args.question.now.graph.now) c.args.question.now.fault c.args.engine.now c.loop-good.engine c.args.facts.now c.loop-good.facts c.args.tree.now c.loop-good.tree c.write_good.new.tree c.loop-good.invariant.writing.going
    (subst (λ (b : Bool). IsTold (net_of c.args.question.now.graph.now) c.args.question.now.fault (held_by c.loop-good.facts) c.loop-good.tree b (held_by c.write_good.new.facts) c.write_good.new.tree) c.if-branch.true c.in_ok-write_good.ensures.told)

pub write_good-write_cases-requires : goal.write_good-write_cases-requires
write_good-write_cases-requires t c =
    let known : known_good (held_by c.args.facts.now) c.args.good.node.0 ≡ Some (not c.args.good.value) = sym c.known_of.ensures ∙ c.in-Some.is ∙ ap Some (beq_other c.in-Some.known_value c.args.good.value c.if-known_value-good.false) in (
      search rules,
      (
        c.requires.numbers,
        (
          c.requires.size,
          (
            c.requires.settled,
            (
              c.requires.room,
              (c.requires.goods, (c.requires.blank, opposite_cases (net_of c.args.question.now.graph.now) c.args.question.now.fault c.args.depth (held_by c.args.facts.now) (held_by c.args.facts.now) c.args.choice.now.value (map (λ n. n.0) c.args.choice.now.drivers.now) c.args.good.node.0 c.args.good.value c.requires.cases (λ x fact e. e) c.requires.settled.free (known_held (held_by c.args.facts.now) c.args.good.node.0 (not c.args.good.value) known))),
            ),
          ),
        ),
      ),
    )

pub write_split-take_back-requires : goal.write_split-take_back-requires
write_split-take_back-requires t c =
    let kept : Keeps c.args.engine.now c.if-not-branch.engine c.args.facts.now c.if-not-branch.facts = elim c.if-not-branch.branch [
      | write_split-then-not-branch+in_ok-write_cases w ↦ rw (w.engine-is, w.facts-is) (keeps_join c.args.engine.now c.tell.new.engine w.write_cases.new.engine c.args.facts.now c.tell.new.facts w.write_cases.new.facts c.in_ok-tell.ensures.keeps w.in_ok-write_cases.ensures.keeps)
      | write_split-else-not-branch w ↦ rw (w.engine-is, w.facts-is) c.in_ok-tell.ensures.keeps
    ] in
    let h : LeadsBack c.if-not-branch.engine.trail c.mark-mark.result c.if-not-branch.facts c.args.facts.now = kept.back c.mark-mark.result c.args.facts.now (c.mark-mark.ensures.back c.args.facts.now) in
    h.order

pub write_split-tell-requires-2-clause-settled : goal.write_split-tell-requires-2-clause-settled
write_split-tell-requires-2-clause-settled t c =
    let kept : Keeps c.args.engine.now c.if-not-branch.engine c.args.facts.now c.if-not-branch.facts = elim c.if-not-branch.branch [
      | write_split-then-not-branch+in_ok-write_cases w ↦ rw (w.engine-is, w.facts-is) (keeps_join c.args.engine.now c.tell.new.engine w.write_cases.new.engine c.args.facts.now c.tell.new.facts w.write_cases.new.facts c.in_ok-tell.ensures.keeps w.in_ok-write_cases.ensures.keeps)
      | write_split-else-not-branch w ↦ rw (w.engine-is, w.facts-is) c.in_ok-tell.ensures.keeps
    ] in
    let taken : (c.take_back.new.facts ≡ c.args.facts.now) × Keeps c.args.engine.now c.take_back.new.self c.args.facts.now c.take_back.new.facts = taken_back c.args.engine.now c.if-not-branch.engine c.take_back.new.self c.mark-mark.result c.args.facts.now c.if-not-branch.facts c.take_back.new.facts c.mark-mark.ensures.mark (c.mark-mark.ensures.back c.args.facts.now) kept c.take_back.ensures.back c.take_back.ensures.earlier c.take_back.ensures.numbers in
    rw taken.0 c.requires.settled

pub write_split-tell-requires-2-clause-unknown : goal.write_split-tell-requires-2-clause-unknown
write_split-tell-requires-2-clause-unknown t c =
    let kept : Keeps c.args.engine.now c.if-not-branch.engine c.args.facts.now c.if-not-branch.facts = elim c.if-not-branch.branch [
      | write_split-then-not-branch+in_ok-write_cases w ↦ rw (w.engine-is, w.facts-is) (keeps_join c.args.engine.now c.tell.new.engine w.write_cases.new.engine c.args.facts.now c.tell.new.facts w.write_cases.new.facts c.in_ok-tell.ensures.keeps w.in_ok-write_cases.ensures.keeps)
      | write_split-else-not-branch w ↦ rw (w.engine-is, w.facts-is) c.in_ok-tell.ensures.keeps
    ] in
    let taken : (c.take_back.new.facts ≡ c.args.facts.now) × Keeps c.args.engine.now c.take_back.new.self c.args.facts.now c.take_back.new.facts = taken_back c.args.engine.now c.if-not-branch.engine c.take_back.new.self c.mark-mark.result c.args.facts.now c.if-not-branch.facts c.take_back.new.facts c.mark-mark.ensures.mark (c.mark-mark.ensures.back c.args.facts.now) kept c.take_back.ensures.back c.take_back.ensures.earlier c.take_back.ensures.numbers in
    rw taken.0 c.requires.unknown

pub write_split-returns-clause-keeps : goal.write_split-returns-clause-keeps
write_split-returns-clause-keeps t c =
    let kept : Keeps c.args.engine.now c.if-not-branch.engine c.args.facts.now c.if-not-branch.facts = elim c.if-not-branch.branch [
      | write_split-then-not-branch+in_ok-write_cases w ↦ rw (w.engine-is, w.facts-is) (keeps_join c.args.engine.now c.tell.new.engine w.write_cases.new.engine c.args.facts.now c.tell.new.facts w.write_cases.new.facts c.in_ok-tell.ensures.keeps w.in_ok-write_cases.ensures.keeps)
      | write_split-else-not-branch w ↦ rw (w.engine-is, w.facts-is) c.in_ok-tell.ensures.keeps
    ] in
    let taken : (c.take_back.new.facts ≡ c.args.facts.now) × Keeps c.args.engine.now c.take_back.new.self c.args.facts.now c.take_back.new.facts = taken_back c.args.engine.now c.if-not-branch.engine c.take_back.new.self c.mark-mark.result c.args.facts.now c.if-not-branch.facts c.take_back.new.facts c.mark-mark.ensures.mark (c.mark-mark.ensures.back c.args.facts.now) kept c.take_back.ensures.back c.take_back.ensures.earlier c.take_back.ensures.numbers in
    keeps_join c.args.engine.now c.take_back.new.self c.tell-2.new.engine c.args.facts.now c.take_back.new.facts c.tell-2.new.facts taken.1 c.in_ok-ended.ensures.keeps

pub write_split-returns-clause-fewer : goal.write_split-returns-clause-fewer
write_split-returns-clause-fewer t c none =
    let kept : Keeps c.args.engine.now c.if-not-branch.engine c.args.facts.now c.if-not-branch.facts = elim c.if-not-branch.branch [
      | write_split-then-not-branch+in_ok-write_cases w ↦ rw (w.engine-is, w.facts-is) (keeps_join c.args.engine.now c.tell.new.engine w.write_cases.new.engine c.args.facts.now c.tell.new.facts w.write_cases.new.facts c.in_ok-tell.ensures.keeps w.in_ok-write_cases.ensures.keeps)
      | write_split-else-not-branch w ↦ rw (w.engine-is, w.facts-is) c.in_ok-tell.ensures.keeps
    ] in
    let taken : (c.take_back.new.facts ≡ c.args.facts.now) × Keeps c.args.engine.now c.take_back.new.self c.args.facts.now c.take_back.new.facts = taken_back c.args.engine.now c.if-not-branch.engine c.take_back.new.self c.mark-mark.result c.args.facts.now c.if-not-branch.facts c.take_back.new.facts c.mark-mark.ensures.mark (c.mark-mark.ensures.back c.args.facts.now) kept c.take_back.ensures.back c.take_back.ensures.earlier c.take_back.ensures.numbers in
    subst (λ (f : List NodeFacts). missing c.tell-2.new.facts < missing f) taken.0 c.in_ok-ended.ensures.fewer

pub write_split-returns-clause-told : goal.write_split-returns-clause-told
write_split-returns-clause-told t c =
    let kept : Keeps c.args.engine.now c.if-not-branch.engine c.args.facts.now c.if-not-branch.facts = elim c.if-not-branch.branch [
      | write_split-then-not-branch+in_ok-write_cases w ↦ rw (w.engine-is, w.facts-is) (keeps_join c.args.engine.now c.tell.new.engine w.write_cases.new.engine c.args.facts.now c.tell.new.facts w.write_cases.new.facts c.in_ok-tell.ensures.keeps w.in_ok-write_cases.ensures.keeps)
      | write_split-else-not-branch w ↦ rw (w.engine-is, w.facts-is) c.in_ok-tell.ensures.keeps
    ] in
    let taken : (c.take_back.new.facts ≡ c.args.facts.now) × Keeps c.args.engine.now c.take_back.new.self c.args.facts.now c.take_back.new.facts = taken_back c.args.engine.now c.if-not-branch.engine c.take_back.new.self c.mark-mark.result c.args.facts.now c.if-not-branch.facts c.take_back.new.facts c.mark-mark.ensures.mark (c.mark-mark.ensures.back c.args.facts.now) kept c.take_back.ensures.back c.take_back.ensures.earlier c.take_back.ensures.numbers in
    let told : IsTold (net_of c.args.question.now.graph.now) c.args.question.now.fault (with_fact (held_by c.args.facts.now) c.args.good.node.0 (Good (not c.args.good.value))) (c.args.tree.now ++ Split c.args.good.node (not c.args.good.value) ∷ []) c.in_ok-tell.field-0 (held_by c.tell.new.facts) c.tell.new.tree = subst (λ (items : List Item). IsTold (net_of c.args.question.now.graph.now) c.args.question.now.fault (with_fact (held_by c.args.facts.now) c.args.good.node.0 (Good (not c.args.good.value))) items c.in_ok-tell.field-0 (held_by c.tell.new.facts) c.tell.new.tree) c.in_ok-push.ensures.ok c.in_ok-tell.ensures.told in
    let ends : Ends (net_of c.args.question.now.graph.now) c.args.question.now.fault (with_fact (held_by c.args.facts.now) c.args.good.node.0 (Good (not c.args.good.value))) (c.args.tree.now ++ Split c.args.good.node (not c.args.good.value) ∷ []) c.if-not-branch.tree = elim c.if-not-branch.branch [
      | write_split-then-not-branch+in_ok-write_cases w ↦ rw w.tree-is (told_ends (net_of c.args.question.now.graph.now) c.args.question.now.fault (with_fact (held_by c.args.facts.now) c.args.good.node.0 (Good (not c.args.good.value))) (c.args.tree.now ++ Split c.args.good.node (not c.args.good.value) ∷ []) c.tell.new.tree w.write_cases.new.tree (held_by c.tell.new.facts) (subst (λ (b : Bool). IsTold (net_of c.args.question.now.graph.now) c.args.question.now.fault (with_fact (held_by c.args.facts.now) c.args.good.node.0 (Good (not c.args.good.value))) (c.args.tree.now ++ Split c.args.good.node (not c.args.good.value) ∷ []) b (held_by c.tell.new.facts) c.tell.new.tree) w.if-not-branch.true told) w.in_ok-write_cases.ensures.ends)
      | write_split-else-not-branch w ↦ rw w.tree-is (subst (λ (b : Bool). IsTold (net_of c.args.question.now.graph.now) c.args.question.now.fault (with_fact (held_by c.args.facts.now) c.args.good.node.0 (Good (not c.args.good.value))) (c.args.tree.now ++ Split c.args.good.node (not c.args.good.value) ∷ []) b (held_by c.tell.new.facts) c.tell.new.tree) w.if-not-branch.false told)
    ] in
    split_told (net_of c.args.question.now.graph.now) c.args.question.now.fault (held_by c.args.facts.now) c.args.good.node (not c.args.good.value) c.args.tree.now c.if-not-branch.tree c.tell-2.new.tree c.in_ok-ended.ended (held_by c.tell-2.new.facts) (may_split (net_of c.args.question.now.graph.now) c.args.question.now.fault (held_by c.args.facts.now) c.args.good.node.0 c.requires.settled c.requires.node c.requires.unknown) ends
    (subst (λ (v : Bool). IsTold (net_of c.args.question.now.graph.now) c.args.question.now.fault (with_fact (held_by c.args.facts.now) c.args.good.node.0 (Good v)) c.if-not-branch.tree c.in_ok-ended.ended (held_by c.tell-2.new.facts) c.tell-2.new.tree) (sym (not-not c.args.good.value))
    (subst (λ (f : List NodeFacts). IsTold (net_of c.args.question.now.graph.now) c.args.question.now.fault (with_fact (held_by f) c.args.good.node.0 (Good c.args.good.value)) c.if-not-branch.tree c.in_ok-ended.ended (held_by c.tell-2.new.facts) c.tell-2.new.tree) taken.0 c.in_ok-ended.ensures.told))

pub write_branches-take_back-requires : goal.write_branches-take_back-requires
write_branches-take_back-requires t c =
    let kept : Keeps c.args.engine.now c.if-not-branch.engine c.args.facts.now c.if-not-branch.facts = elim c.if-not-branch.branch [
      | write_branches-then-not-branch+in_ok-write w ↦ rw (w.engine-is, w.facts-is) (keeps_join c.args.engine.now c.tell.new.engine w.write.new.engine c.args.facts.now c.tell.new.facts w.write.new.facts c.in_ok-tell.ensures.keeps w.in_ok-write.ensures.keeps)
      | write_branches-else-not-branch w ↦ rw (w.engine-is, w.facts-is) c.in_ok-tell.ensures.keeps
    ] in
    let h : LeadsBack c.if-not-branch.engine.trail c.mark-mark.result c.if-not-branch.facts c.args.facts.now = kept.back c.mark-mark.result c.args.facts.now (c.mark-mark.ensures.back c.args.facts.now) in
    h.order

pub write_branches-tell-requires-2-clause-settled : goal.write_branches-tell-requires-2-clause-settled
write_branches-tell-requires-2-clause-settled t c =
    let kept : Keeps c.args.engine.now c.if-not-branch.engine c.args.facts.now c.if-not-branch.facts = elim c.if-not-branch.branch [
      | write_branches-then-not-branch+in_ok-write w ↦ rw (w.engine-is, w.facts-is) (keeps_join c.args.engine.now c.tell.new.engine w.write.new.engine c.args.facts.now c.tell.new.facts w.write.new.facts c.in_ok-tell.ensures.keeps w.in_ok-write.ensures.keeps)
      | write_branches-else-not-branch w ↦ rw (w.engine-is, w.facts-is) c.in_ok-tell.ensures.keeps
    ] in
    let taken : (c.take_back.new.facts ≡ c.args.facts.now) × Keeps c.args.engine.now c.take_back.new.self c.args.facts.now c.take_back.new.facts = taken_back c.args.engine.now c.if-not-branch.engine c.take_back.new.self c.mark-mark.result c.args.facts.now c.if-not-branch.facts c.take_back.new.facts c.mark-mark.ensures.mark (c.mark-mark.ensures.back c.args.facts.now) kept c.take_back.ensures.back c.take_back.ensures.earlier c.take_back.ensures.numbers in
    rw taken.0 c.requires.settled

pub write_branches-tell-requires-2-clause-unknown : goal.write_branches-tell-requires-2-clause-unknown
write_branches-tell-requires-2-clause-unknown t c =
    let kept : Keeps c.args.engine.now c.if-not-branch.engine c.args.facts.now c.if-not-branch.facts = elim c.if-not-branch.branch [
      | write_branches-then-not-branch+in_ok-write w ↦ rw (w.engine-is, w.facts-is) (keeps_join c.args.engine.now c.tell.new.engine w.write.new.engine c.args.facts.now c.tell.new.facts w.write.new.facts c.in_ok-tell.ensures.keeps w.in_ok-write.ensures.keeps)
      | write_branches-else-not-branch w ↦ rw (w.engine-is, w.facts-is) c.in_ok-tell.ensures.keeps
    ] in
    let taken : (c.take_back.new.facts ≡ c.args.facts.now) × Keeps c.args.engine.now c.take_back.new.self c.args.facts.now c.take_back.new.facts = taken_back c.args.engine.now c.if-not-branch.engine c.take_back.new.self c.mark-mark.result c.args.facts.now c.if-not-branch.facts c.take_back.new.facts c.mark-mark.ensures.mark (c.mark-mark.ensures.back c.args.facts.now) kept c.take_back.ensures.back c.take_back.ensures.earlier c.take_back.ensures.numbers in
    rw taken.0 c.requires.unknown

pub write_branches-returns-clause-keeps : goal.write_branches-returns-clause-keeps
write_branches-returns-clause-keeps t c =
    let kept : Keeps c.args.engine.now c.if-not-branch.engine c.args.facts.now c.if-not-branch.facts = elim c.if-not-branch.branch [
      | write_branches-then-not-branch+in_ok-write w ↦ rw (w.engine-is, w.facts-is) (keeps_join c.args.engine.now c.tell.new.engine w.write.new.engine c.args.facts.now c.tell.new.facts w.write.new.facts c.in_ok-tell.ensures.keeps w.in_ok-write.ensures.keeps)
      | write_branches-else-not-branch w ↦ rw (w.engine-is, w.facts-is) c.in_ok-tell.ensures.keeps
    ] in
    let taken : (c.take_back.new.facts ≡ c.args.facts.now) × Keeps c.args.engine.now c.take_back.new.self c.args.facts.now c.take_back.new.facts = taken_back c.args.engine.now c.if-not-branch.engine c.take_back.new.self c.mark-mark.result c.args.facts.now c.if-not-branch.facts c.take_back.new.facts c.mark-mark.ensures.mark (c.mark-mark.ensures.back c.args.facts.now) kept c.take_back.ensures.back c.take_back.ensures.earlier c.take_back.ensures.numbers in
    keeps_join c.args.engine.now c.take_back.new.self c.tell-2.new.engine c.args.facts.now c.take_back.new.facts c.tell-2.new.facts taken.1 c.in_ok-ended.ensures.keeps

pub write_branches-returns-clause-told : goal.write_branches-returns-clause-told
write_branches-returns-clause-told t c =
    let kept : Keeps c.args.engine.now c.if-not-branch.engine c.args.facts.now c.if-not-branch.facts = elim c.if-not-branch.branch [
      | write_branches-then-not-branch+in_ok-write w ↦ rw (w.engine-is, w.facts-is) (keeps_join c.args.engine.now c.tell.new.engine w.write.new.engine c.args.facts.now c.tell.new.facts w.write.new.facts c.in_ok-tell.ensures.keeps w.in_ok-write.ensures.keeps)
      | write_branches-else-not-branch w ↦ rw (w.engine-is, w.facts-is) c.in_ok-tell.ensures.keeps
    ] in
    let taken : (c.take_back.new.facts ≡ c.args.facts.now) × Keeps c.args.engine.now c.take_back.new.self c.args.facts.now c.take_back.new.facts = taken_back c.args.engine.now c.if-not-branch.engine c.take_back.new.self c.mark-mark.result c.args.facts.now c.if-not-branch.facts c.take_back.new.facts c.mark-mark.ensures.mark (c.mark-mark.ensures.back c.args.facts.now) kept c.take_back.ensures.back c.take_back.ensures.earlier c.take_back.ensures.numbers in
    let told : IsTold (net_of c.args.question.now.graph.now) c.args.question.now.fault (with_fact (held_by c.args.facts.now) c.args.assumed.node.0 (Good c.args.assumed.value)) (c.args.tree.now ++ Split c.args.assumed.node c.args.assumed.value ∷ []) c.in_ok-tell.field-0 (held_by c.tell.new.facts) c.tell.new.tree = subst (λ (items : List Item). IsTold (net_of c.args.question.now.graph.now) c.args.question.now.fault (with_fact (held_by c.args.facts.now) c.args.assumed.node.0 (Good c.args.assumed.value)) items c.in_ok-tell.field-0 (held_by c.tell.new.facts) c.tell.new.tree) c.in_ok-push.ensures.ok c.in_ok-tell.ensures.told in
    let ends : Ends (net_of c.args.question.now.graph.now) c.args.question.now.fault (with_fact (held_by c.args.facts.now) c.args.assumed.node.0 (Good c.args.assumed.value)) (c.args.tree.now ++ Split c.args.assumed.node c.args.assumed.value ∷ []) c.if-not-branch.tree = elim c.if-not-branch.branch [
      | write_branches-then-not-branch+in_ok-write w ↦ rw w.tree-is (told_ends (net_of c.args.question.now.graph.now) c.args.question.now.fault (with_fact (held_by c.args.facts.now) c.args.assumed.node.0 (Good c.args.assumed.value)) (c.args.tree.now ++ Split c.args.assumed.node c.args.assumed.value ∷ []) c.tell.new.tree w.write.new.tree (held_by c.tell.new.facts) (subst (λ (b : Bool). IsTold (net_of c.args.question.now.graph.now) c.args.question.now.fault (with_fact (held_by c.args.facts.now) c.args.assumed.node.0 (Good c.args.assumed.value)) (c.args.tree.now ++ Split c.args.assumed.node c.args.assumed.value ∷ []) b (held_by c.tell.new.facts) c.tell.new.tree) w.if-not-branch.true told) w.in_ok-write.ensures.ends)
      | write_branches-else-not-branch w ↦ rw w.tree-is (subst (λ (b : Bool). IsTold (net_of c.args.question.now.graph.now) c.args.question.now.fault (with_fact (held_by c.args.facts.now) c.args.assumed.node.0 (Good c.args.assumed.value)) (c.args.tree.now ++ Split c.args.assumed.node c.args.assumed.value ∷ []) b (held_by c.tell.new.facts) c.tell.new.tree) w.if-not-branch.false told)
    ] in
    split_told (net_of c.args.question.now.graph.now) c.args.question.now.fault (held_by c.args.facts.now) c.args.assumed.node c.args.assumed.value c.args.tree.now c.if-not-branch.tree c.tell-2.new.tree c.in_ok-ended.ended (held_by c.tell-2.new.facts) (may_split (net_of c.args.question.now.graph.now) c.args.question.now.fault (held_by c.args.facts.now) c.args.assumed.node.0 c.requires.settled c.requires.node c.requires.unknown) ends
    (subst (λ (f : List NodeFacts). IsTold (net_of c.args.question.now.graph.now) c.args.question.now.fault (with_fact (held_by f) c.args.assumed.node.0 (Good (not c.args.assumed.value))) c.if-not-branch.tree c.in_ok-ended.ended (held_by c.tell-2.new.facts) c.tell-2.new.tree) taken.0 c.in_ok-ended.ensures.told)

pub write_split-write_cases-requires : goal.write_split-write_cases-requires
write_split-write_cases-requires t c =
    let settled : AreSettled (net_of c.args.question.now.graph.now) c.args.question.now.fault (held_by c.tell.new.facts) = (subst (λ (b : Bool). IsTold (net_of c.args.question.now.graph.now) c.args.question.now.fault (with_fact (held_by c.args.facts.now) c.args.good.node.0 (Good (not c.args.good.value))) c.push.new.self b (held_by c.tell.new.facts) c.tell.new.tree) c.if-not-branch.true c.in_ok-tell.ensures.told).1 in (
      search rules,
      (
        rw c.in_ok-tell.ensures.keeps.numbers c.requires.numbers,
        (
          rw c.in_ok-tell.ensures.keeps.size c.requires.size,
          (
            settled,
            (
              c.requires.room,
              (goods_keep c.args.watch.now c.args.watch.now c.args.engine.now c.tell.new.engine c.args.facts.now c.tell.new.facts refl c.in_ok-tell.ensures.keeps c.requires.goods, (c.requires.blank, opposite_cases (net_of c.args.question.now.graph.now) c.args.question.now.fault c.args.depth (held_by c.args.facts.now) (held_by c.tell.new.facts) c.args.choice.now.value (map (λ n. n.0) c.args.choice.now.drivers.now) c.args.good.node.0 c.args.good.value c.requires.cases c.in_ok-tell.ensures.keeps.more settled.free (c.in_ok-tell.ensures.there c.if-not-branch.true))),
            ),
          ),
        ),
      ),
    )

pub write_cases-write_case-requires : goal.write_cases-write_case-requires
write_cases-write_case-requires t c =
    let there : slice_get (map (λ n. n.0) c.args.choice.now.drivers.now) c.loop-driver.driver-index ≡ Some (get_or c.args.choice.now.drivers.now c.loop-driver.driver-index (record { 0 = 0 })).0 = (driver_at c.args.choice.now.drivers.now c.loop-driver.driver-index (record { 0 = 0 }) (omega arith)) in
    let reads = c.requires.cases.cases.reads c.loop-driver.driver-index (get_or c.args.choice.now.drivers.now c.loop-driver.driver-index (record { 0 = 0 })).0 there in (
      search rules,
      (
        rw c.loop-driver.invariant.writing.going.keeps.numbers c.requires.numbers,
        (
          rw c.loop-driver.invariant.writing.going.keeps.size c.requires.size,
          (
            c.loop-driver.invariant.writing.going.settled,
            (
              room_leaves (net_of c.args.question.now.graph.now) c.args.watch.now c.loop-driver.watch c.loop-driver.invariant.leaves c.requires.room,
              (
                goods_keep c.args.watch.now c.loop-driver.watch c.args.engine.now c.loop-driver.engine c.args.facts.now c.loop-driver.facts c.loop-driver.invariant.leaves.first c.loop-driver.invariant.writing.going.keeps c.requires.goods,
                (
                  blank_leaves c.args.watch.now c.loop-driver.watch c.loop-driver.invariant.leaves c.requires.blank,
                  (
                    driver_live (net_of c.args.question.now.graph.now) c.well_formed-2.ensures.net c.requires.cases.cases.gate reads.0 (get_or c.args.choice.now.drivers.now c.loop-driver.driver-index (record { 0 = 0 })).0 reads.1,
                    λ more within is. c.requires.cases.clash c.loop-driver.driver-index (get_or c.args.choice.now.drivers.now c.loop-driver.driver-index (record { 0 = 0 })).0 there more (λ x fact e. within x fact (c.loop-driver.invariant.writing.going.keeps.more x fact e)) is,
                  ),
                ),
              ),
            ),
          ),
        ),
      ),
    )

pub write_cases-loop-driver-preserved : goal.write_cases-loop-driver-preserved
write_cases-loop-driver-preserved t c =
    record {
      writing = cases_more (net_of c.args.question.now.graph.now) c.args.question.now.fault c.args.choice.now.value (map (λ n. n.0) c.args.choice.now.drivers.now) c.loop-driver.driver-index (get_or c.args.choice.now.drivers.now c.loop-driver.driver-index (record { 0 = 0 })).0 c.args.engine.now c.loop-driver.engine c.write_case.new.engine c.args.facts.now c.loop-driver.facts c.write_case.new.facts c.args.tree.now c.loop-driver.tree c.write_case.new.tree c.loop-driver.invariant.writing (driver_at c.args.choice.now.drivers.now c.loop-driver.driver-index (record { 0 = 0 }) (omega arith)) c.in_ok-write_case.ensures.keeps
          (subst (λ (b : Bool). IsTold (net_of c.args.question.now.graph.now) c.args.question.now.fault (held_by c.loop-driver.facts) c.loop-driver.tree b (held_by c.write_case.new.facts) c.write_case.new.tree) c.if-branch.false c.in_ok-write_case.ensures.told) (c.in_ok-write_case.ensures.other c.if-branch.false);
      leaves = leaves_join c.args.watch.now c.loop-driver.watch c.write_case.new.watch c.loop-driver.invariant.leaves c.in_ok-write_case.ensures.leaves;
    }

pub write_cases-returns-then-branch-clause-ends : goal.write_cases-returns-then-branch-clause-ends
write_cases-returns-then-branch-clause-ends t c =
    going_ends (net_of c.args.question.now.graph.now) c.args.question.now.fault c.args.engine.now c.loop-driver.engine c.args.facts.now c.loop-driver.facts c.args.tree.now c.loop-driver.tree c.write_case.new.tree c.loop-driver.invariant.writing.going
    (subst (λ (b : Bool). IsTold (net_of c.args.question.now.graph.now) c.args.question.now.fault (held_by c.loop-driver.facts) c.loop-driver.tree b (held_by c.write_case.new.facts) c.write_case.new.tree) c.if-branch.true c.in_ok-write_case.ensures.told)

pub write_cases-returns-then-branch-clause-keeps : goal.write_cases-returns-then-branch-clause-keeps
write_cases-returns-then-branch-clause-keeps t c =
    keeps_join c.args.engine.now c.loop-driver.engine c.write_case.new.engine c.args.facts.now c.loop-driver.facts c.write_case.new.facts c.loop-driver.invariant.writing.going.keeps c.in_ok-write_case.ensures.keeps

pub write_cases-returns-clause-ends : goal.write_cases-returns-clause-ends
write_cases-returns-clause-ends t c =
    absurd (no_driver (net_of c.args.question.now.graph.now) c.args.question.now.fault (held_by c.args.facts.now) (held_by c.loop-driver.facts) c.args.choice.now.value (map (λ n. n.0) c.args.choice.now.drivers.now) c.requires.cases.cases c.loop-driver.invariant.writing.going.keeps.more c.loop-driver.invariant.writing.going.settled
    (λ k d at. c.loop-driver.invariant.writing.others k d (let less : k < length (map (λ n. n.0) c.args.choice.now.drivers.now) = slice_get_within (map (λ n. n.0) c.args.choice.now.drivers.now) k d at in let same : length (map (λ n. n.0) c.args.choice.now.drivers.now) ≡ length c.args.choice.now.drivers.now = length-map c.args.choice.now.drivers.now (λ n. n.0) in omega arith) at))

pub write_split-returns-clause-leaves : goal.write_split-returns-clause-leaves
write_split-returns-clause-leaves t c = elim c.if-not-branch.branch [
  | write_split-then-not-branch+in_ok-write_cases w ↦ rw w.watch-is w.in_ok-write_cases.ensures.leaves
  | write_split-else-not-branch w ↦ rw w.watch-is (leaves_none c.args.watch.now)
]

pub write_branches-returns-clause-leaves : goal.write_branches-returns-clause-leaves
write_branches-returns-clause-leaves t c = elim c.if-not-branch.branch [
  | write_branches-then-not-branch+in_ok-write w ↦ rw w.watch-is w.in_ok-write.ensures.leaves
  | write_branches-else-not-branch w ↦ rw w.watch-is (leaves_none c.args.watch.now)
]
