use Rattle.std.proofs.Common.{ap, subst, ◌∙◌}
use Rattle.std.specs.Prelude.{IfOk}
use Rattle.gate_graph.specs.Circuit.{net_of}
use Rattle.implications.proofs.Steps.{becomes_is}
use Rattle.implications.proofs.state.Engine.grow.Goals as goal
use Rattle.implications.specs.Outcomes.{IsGrown}
use Rattle.refutation.specs.FactSets.{held_by}
use Rattle.refutation.specs.Facts.{with_fact}
use Rattle.refutation.specs.declared.reasoning.Fact.TheVariants.{Good}

pub returns-clause-grown : goal.returns-clause-grown
returns-clause-grown c =
    subst (λ h. IfOk c.close_from.result (IsGrown (net_of c.args.question.now.graph.now) c.args.question.now.fault h c.close_from.new.self.lines))
    (becomes_is c.in-Ok.more c.insert.new.self c.args.node.0 (Good c.args.value) c.insert.ensures.facts ∙ ap (λ facts. with_fact (held_by facts) c.args.node.0 (Good c.args.value)) c.in-Ok.ensures) c.close_from.ensures.grown
