use Rattle.std.proofs.Common.{Bool, arith, subst, ◌+◌}
use Rattle.gate_graph.specs.Circuit.{net_of}
use Rattle.recursive_learning.proofs.Gains.{keeps_join}
use Rattle.recursive_learning.proofs.Holdings.{goods_keep}
use Rattle.recursive_learning.proofs.Refutes.{deepening_clash, deepening_more, deepening_none}
use Rattle.recursive_learning.proofs.Watches.{lengthens_join, lengthens_none, room_longer}
use Rattle.recursive_learning.specs.Inner.Working.{IsLearned}
use Rattle.refutation.specs.FactSets.{held_by}
use Rattle.recursive_learning.proofs.refuting.deepen.Goals as goal

pub loop-level-init : goal.loop-level-init
loop-level-init c = record {
  deepening = deepening_none (net_of c.args.question.now.graph.now) c.args.question.now.fault c.args.engine.now c.args.facts.now c.requires.settled;
  watching = c.requires.watching;
  lengthens = lengthens_none c.args.watch.now;
}

pub loop-level-preserved : goal.loop-level-preserved
loop-level-preserved c = record {
  deepening = deepening_more (net_of c.args.question.now.graph.now) c.args.question.now.fault c.loop-level.level c.args.engine.now c.loop-level.engine c.learn.new.engine c.args.facts.now c.loop-level.facts c.learn.new.facts c.loop-level.invariant.deepening c.in_ok-learn.ensures.keeps
      (subst (λ (b : Bool). IsLearned (net_of c.args.question.now.graph.now) c.args.question.now.fault (c.loop-level.level + 1) (held_by c.loop-level.facts) b (held_by c.learn.new.facts)) c.if-branch.false c.in_ok-learn.ensures.learned);
  watching = c.in_ok-learn.ensures.watching c.if-branch.false;
  lengthens = lengthens_join c.args.watch.now c.loop-level.watch c.learn.new.watch c.loop-level.invariant.lengthens c.in_ok-learn.ensures.lengthens;
}

pub returns-then-branch-clause-deepened : goal.returns-then-branch-clause-deepened
returns-then-branch-clause-deepened c = (
  omega arith,
  deepening_clash (net_of c.args.question.now.graph.now) c.args.question.now.fault c.loop-level.level c.args.engine.now c.loop-level.engine c.args.facts.now c.loop-level.facts c.loop-level.invariant.deepening
      (subst (λ (b : Bool). IsLearned (net_of c.args.question.now.graph.now) c.args.question.now.fault (c.loop-level.level + 1) (held_by c.loop-level.facts) b (held_by c.learn.new.facts)) c.if-branch.true c.in_ok-learn.ensures.learned),
)

pub returns-then-branch-clause-keeps : goal.returns-then-branch-clause-keeps
returns-then-branch-clause-keeps c = keeps_join c.args.engine.now c.loop-level.engine c.learn.new.engine c.args.facts.now c.loop-level.facts c.learn.new.facts c.loop-level.invariant.deepening.keeps c.in_ok-learn.ensures.keeps

pub returns-then-branch-clause-lengthens : goal.returns-then-branch-clause-lengthens
returns-then-branch-clause-lengthens c = lengthens_join c.args.watch.now c.loop-level.watch c.learn.new.watch c.loop-level.invariant.lengthens c.in_ok-learn.ensures.lengthens

pub learn-requires-clause-room : goal.learn-requires-clause-room
learn-requires-clause-room c = room_longer (net_of c.args.question.now.graph.now) c.args.watch.now c.loop-level.watch c.loop-level.invariant.lengthens c.requires.room

pub learn-requires-clause-goods : goal.learn-requires-clause-goods
learn-requires-clause-goods c = goods_keep c.args.watch.now c.loop-level.watch c.args.engine.now c.loop-level.engine c.args.facts.now c.loop-level.facts c.loop-level.invariant.lengthens.first c.loop-level.invariant.deepening.keeps c.requires.goods
