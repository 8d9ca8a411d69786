use Rattle.local_evaluation.proofs.Public.{beq_same}
use Rattle.gate_graph.specs.Circuit.{net_of}
use Rattle.std.proofs.Common.{refl, ap}
use Rattle.refutation.specs.FactSets.{held_by}
use Rattle.refutation.specs.declared.reasoning.Fact.TheVariants.{Good as GoodFact}
use Rattle.refutation.specs.declared.pins.Aspect.TheVariants.{OfFaulty, OfEqual}
use Rattle.refutation.proofs.Told.{both_some}
use Rattle.refutation.proofs.value_lines.line_to_good.Goals as goal

pub returns : goal.returns
returns c =
    let h = both_some (net_of c.args.question.now.graph.now) OfFaulty OfEqual (held_by c.args.facts.now) c.args.node.0 (c.in_ok-value.value, c.in_ok-value.equal) c.in_ok-value.ensures in
    (h.0, c.in_ok-value.value, c.in_ok-value.equal, h.1.0, h.1.1, refl, ap GoodFact (beq_same c.in_ok-value.equal c.in_ok-value.value))
