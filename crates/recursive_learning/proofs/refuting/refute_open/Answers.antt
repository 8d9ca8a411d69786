use Rattle.std.proofs.Common.{Option, subst, sym, ℕ}
use Rattle.gate_graph.specs.Circuit.{net_of}
use Rattle.implications.specs.Trail.{LeadsBack}
use Rattle.recursive_learning.proofs.Holdings.{goods_first}
use Rattle.recursive_learning.proofs.Refutes.{clash_at_deeper, clash_of_all, least_of_all}
use Rattle.recursive_learning.proofs.Rounds.{learned_none}
use Rattle.recursive_learning.specs.Inner.Answers.{IsDeepened}
use Rattle.recursive_learning.specs.Least.{IsLeastAt}
use Rattle.refutation.specs.FactSets.{held_by}
use Rattle.refutation.specs.Facts.{none_held}
use Rattle.recursive_learning.proofs.refuting.refute_open.Goals as goal

pub take_back-requires : goal.take_back-requires
take_back-requires c =
    let h : LeadsBack c.deepen.new.engine.trail c.mark-mark.result c.deepen.new.facts c.args.facts = c.in_ok-clash.ensures.keeps.back c.mark-mark.result c.args.facts (c.mark-mark.ensures.back c.args.facts) in
    h.order

pub tree_of-requires-clause-clash : goal.tree_of-requires-clause-clash
tree_of-requires-clause-clash c = clash_of_all (net_of c.args.question.now.graph.now) c.args.question.now.fault c.in-Some.level (held_by c.args.facts) c.requires.forced (subst (λ (o : Option ℕ). IsDeepened (net_of c.args.question.now.graph.now) c.args.question.now.fault c.args.depth (held_by c.args.facts) o (held_by c.deepen.new.facts)) c.in-Some.is c.in_ok-clash.ensures.deepened).1

pub returns-clause-refuting : goal.returns-clause-refuting
returns-clause-refuting c = (clash_at_deeper (net_of c.args.question.now.graph.now) c.args.question.now.fault c.in-Some.level c.args.depth none_held (subst (λ (o : Option ℕ). IsDeepened (net_of c.args.question.now.graph.now) c.args.question.now.fault c.args.depth (held_by c.args.facts) o (held_by c.deepen.new.facts)) c.in-Some.is c.in_ok-clash.ensures.deepened).0 (clash_of_all (net_of c.args.question.now.graph.now) c.args.question.now.fault c.in-Some.level (held_by c.args.facts) c.requires.forced (subst (λ (o : Option ℕ). IsDeepened (net_of c.args.question.now.graph.now) c.args.question.now.fault c.args.depth (held_by c.args.facts) o (held_by c.deepen.new.facts)) c.in-Some.is c.in_ok-clash.ensures.deepened).1), c.in_ok-tree.ensures.accepted)

pub returns-in_default-clause-refuting : goal.returns-in_default-clause-refuting
returns-in_default-clause-refuting c = (least_of_all (net_of c.args.question.now.graph.now) c.args.question.now.fault c.args.depth (held_by c.args.facts) (held_by c.deepen.new.facts) c.requires.forced (subst (λ (o : Option ℕ). IsDeepened (net_of c.args.question.now.graph.now) c.args.question.now.fault c.args.depth (held_by c.args.facts) o (held_by c.deepen.new.facts)) c.in_default.is c.in_ok-clash.ensures.deepened), rw c.in_ok-clash.ensures.keeps.size c.requires.size)

pub returns-then-depth-eq0-clause-refuting : goal.returns-then-depth-eq0-clause-refuting
returns-then-depth-eq0-clause-refuting c = (
  subst (λ (n : ℕ). IsLeastAt (net_of c.args.question.now.graph.now) c.args.question.now.fault n none_held (held_by c.args.facts)) (sym c.if-depth-eq0.true)
      (least_of_all (net_of c.args.question.now.graph.now) c.args.question.now.fault 0 (held_by c.args.facts) (held_by c.args.facts) c.requires.forced (learned_none (net_of c.args.question.now.graph.now) c.args.question.now.fault (held_by c.args.facts) c.requires.settled).0),
  c.requires.size,
)

pub deepen-requires-clause-goods : goal.deepen-requires-clause-goods
deepen-requires-clause-goods c = goods_first (net_of c.args.question.now.graph.now) c.args.question.now.fault c.begin_with.new.self c.args.engine.now c.args.facts c.mark-mark.result c.requires.settled (c.mark-mark.ensures.back c.args.facts) c.in_ok-begin_with.ensures.first
