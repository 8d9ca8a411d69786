use Rattle.gate_graph.specs.Circuit.{net_of}
use Rattle.std.proofs.Common.{refl}
use Rattle.refutation.specs.FactSets.{held_by}
use Rattle.refutation.specs.declared.pins.Aspect.TheVariants.{OfFaulty}
use Rattle.refutation.specs.Pins.{stuck_of}
use Rattle.refutation.proofs.Told.{forward_some, faulty_pins}
use Rattle.refutation.proofs.value_lines.line_faulty_forward.Goals as goal

pub returns : goal.returns
returns c =
    let h = forward_some (net_of c.args.question.now.graph.now) (stuck_of c.args.question.now.fault c.args.node.0) OfFaulty (held_by c.args.facts.now) c.args.node.0 c.in_ok-value.value (rw c.stuck_at.ensures at c.in_ok-value.ensures) in
    (h.0, c.in_ok-value.value, h.1.0, rw faulty_pins at h.1.1, refl, refl)
