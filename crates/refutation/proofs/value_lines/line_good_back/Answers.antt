use Rattle.gate_graph.specs.Circuit.{net_of}
use Rattle.std.proofs.Common.{refl, None}
use Rattle.refutation.specs.FactSets.{held_by}
use Rattle.refutation.specs.declared.pins.Aspect.TheVariants.{OfGood}
use Rattle.refutation.proofs.Told.{backward_some}
use Rattle.refutation.proofs.value_lines.line_good_back.Goals as goal

pub returns : goal.returns
returns c =
    let h = backward_some (net_of c.args.question.now.graph.now) None OfGood (held_by c.args.facts.now) c.args.node.0 c.args.position (c.in_ok-driver.driver.0, c.in_ok-driver.value) c.in_ok-driver.ensures in
    (h.0, h.1.0, c.in_ok-driver.value, h.1.1.0, h.1.1.1.0, h.1.1.1.1.1, h.1.1.1.1.0, refl)
