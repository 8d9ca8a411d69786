use Rattle.std.proofs.Common.{Bool, arith, get_or, subst}
use Rattle.std.proofs.lemmas.Option.{slice_get-get_or}
use Rattle.gate_graph.specs.Circuit.{net_of}
use Rattle.recursive_learning.proofs.Gains.{gaining_clash, gaining_more, keeps_join}
use Rattle.recursive_learning.specs.Inner.Working.{IsLearned}
use Rattle.recursive_learning.specs.declared.justified_values.GoodValue.{GoodValue}
use Rattle.refutation.specs.FactSets.{held_by}
use Rattle.refutation.specs.Facts.{with_fact}
use Rattle.refutation.specs.declared.reasoning.Fact.TheVariants.{Good}
use Rattle.recursive_learning.proofs.adding.gain.Goals as goal
use Rattle.recursive_learning.proofs.Defaults.{no_good}

pub gain_one-requires-clause-node : goal.gain_one-requires-clause-node
gain_one-requires-clause-node c = (c.requires.new c.loop-good.good-index (get_or c.args.goods.now c.loop-good.good-index no_good) (slice_get-get_or c.args.goods.now c.loop-good.good-index no_good (omega arith))).live

pub returns-then-branch-clause-gained : goal.returns-then-branch-clause-gained
returns-then-branch-clause-gained c =
    let g : GoodValue = get_or c.args.goods.now c.loop-good.good-index no_good in
    gaining_clash (net_of c.args.question.now.graph.now) c.args.question.now.fault c.args.goods.now c.loop-good.good-index c.args.engine.now c.loop-good.engine c.args.facts.now c.loop-good.facts c.gain_one.new.facts g c.loop-good.invariant (slice_get-get_or c.args.goods.now c.loop-good.good-index no_good (omega arith))
    (subst (λ (b : Bool). IsLearned (net_of c.args.question.now.graph.now) c.args.question.now.fault 0 (with_fact (held_by c.loop-good.facts) g.node.0 (Good g.value)) b (held_by c.gain_one.new.facts)) c.if-branch.true c.in_ok-gain_one.ensures.learned)

pub returns-then-branch-clause-keeps : goal.returns-then-branch-clause-keeps
returns-then-branch-clause-keeps c = keeps_join c.args.engine.now c.loop-good.engine c.gain_one.new.engine c.args.facts.now c.loop-good.facts c.gain_one.new.facts c.loop-good.invariant.keeps c.in_ok-gain_one.ensures.keeps

pub loop-good-preserved : goal.loop-good-preserved
loop-good-preserved c =
    let g : GoodValue = get_or c.args.goods.now c.loop-good.good-index no_good in
    gaining_more (net_of c.args.question.now.graph.now) c.args.question.now.fault c.args.goods.now c.loop-good.good-index c.args.engine.now c.loop-good.engine c.gain_one.new.engine c.args.facts.now c.loop-good.facts c.gain_one.new.facts g c.loop-good.invariant c.requires.new (slice_get-get_or c.args.goods.now c.loop-good.good-index no_good (omega arith))
    (subst (λ (b : Bool). IsLearned (net_of c.args.question.now.graph.now) c.args.question.now.fault 0 (with_fact (held_by c.loop-good.facts) g.node.0 (Good g.value)) b (held_by c.gain_one.new.facts)) c.if-branch.false c.in_ok-gain_one.ensures.learned)
    c.in_ok-gain_one.ensures.keeps c.in_ok-gain_one.ensures.less c.in_ok-gain_one.ensures.fewer
