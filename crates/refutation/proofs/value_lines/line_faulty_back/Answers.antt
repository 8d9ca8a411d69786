use Rattle.gate_graph.specs.Circuit.{net_of}
use Rattle.std.proofs.Common.{◌≡◌, true, false, refl}
use Rattle.refutation.specs.FactSets.{held_by}
use Rattle.refutation.specs.declared.pins.Aspect.TheVariants.{OfFaulty}
use Rattle.refutation.specs.Pins.{stuck_of}
use Rattle.refutation.proofs.Told.{backward_some, faulty_pins}
use Rattle.refutation.proofs.value_lines.line_faulty_back.Goals as goal

pub returns : goal.returns
returns c =
    let h = backward_some (net_of c.args.question.now.graph.now) (stuck_of c.args.question.now.fault c.args.node.0) OfFaulty (held_by c.args.facts.now) c.args.node.0 c.args.position (c.in_ok-driver.driver.0, c.in_ok-driver.value) (rw c.stuck_at-stuck.ensures at c.in_ok-driver.ensures) in
    (h.0, h.1.0, c.in_ok-driver.value, h.1.1.0, h.1.1.1.0, rw faulty_pins at h.1.1.1.1.1, λ both. let wrong : false ≡ true = c.if-is_stuck.ensures.1 both in cc, h.1.1.1.1.0, refl)
