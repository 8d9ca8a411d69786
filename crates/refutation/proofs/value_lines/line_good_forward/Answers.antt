use Rattle.gate_graph.specs.Circuit.{net_of}
use Rattle.std.proofs.Common.{refl, None}
use Rattle.refutation.specs.FactSets.{held_by}
use Rattle.refutation.specs.declared.pins.Aspect.TheVariants.{OfGood}
use Rattle.refutation.proofs.Told.{forward_some}
use Rattle.refutation.proofs.value_lines.line_good_forward.Goals as goal

pub returns : goal.returns
returns c = let h = forward_some (net_of c.args.question.now.graph.now) None OfGood (held_by c.args.facts.now) c.args.node.0 c.in_ok-value.value c.in_ok-value.ensures in (h.0, c.in_ok-value.value, h.1.0, h.1.1, refl, refl)
