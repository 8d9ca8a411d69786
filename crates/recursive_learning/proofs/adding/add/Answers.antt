use Rattle.std.proofs.Common.{subst, sym}
use Rattle.gate_graph.specs.Circuit.{net_of}
use Rattle.refutation.specs.FactSets.{held_by}
use Rattle.refutation.specs.Facts.{with_fact}
use Rattle.refutation.specs.declared.reasoning.Fact.TheVariants.{Good}
use Rattle.recursive_learning.proofs.Added.{added_is}
use Rattle.recursive_learning.specs.Inner.Working.{IsLearned}
use Rattle.recursive_learning.proofs.adding.add.Goals as goal

pub returns-clause-learned : goal.returns-clause-learned
returns-clause-learned c =
    subst (λ b. IsLearned (net_of c.args.question.now.graph.now) c.args.question.now.fault 0 (with_fact (held_by c.args.facts.now) c.args.node.0 (Good c.args.value)) b (held_by c.extend.new.facts)) (sym c.is_some.ensures)
    (added_is (net_of c.args.question.now.graph.now) c.args.question.now.fault (held_by c.args.facts.now) c.args.node.0 c.args.value c.extend.new.self.lines c.extend.new.facts c.in_ok-clash.clash c.well_formed-2.ensures.net c.args.question.now.pin c.requires.settled c.requires.node c.in_ok-clash.ensures.extended)
