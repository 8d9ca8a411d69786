use Rattle.std.proofs.Common.{◌∙◌, sym}
use Rattle.gate_graph.proofs.PinsFrom.{first-there, none-there}
use Rattle.gate_graph.proofs.pins.nth_pin.Goals as goal

pub returns-in-Some : goal.returns-in-Some
returns-in-Some c = first-there _ _ c.args.position c.in-Some.pin.0 (sym c.inputs_from-pins.ensures.list ∙ c.in-Some.ensures.steps)

pub returns-in-None : goal.returns-in-None
returns-in-None c = none-there _ c.args.position (sym c.inputs_from-pins.ensures.list ∙ c.in-None.ensures.steps.0)
