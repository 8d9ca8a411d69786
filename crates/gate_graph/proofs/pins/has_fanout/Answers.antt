use Rattle.std.proofs.Common.{◌∙◌, sym}
use Rattle.gate_graph.proofs.Placed.{has-front}
use Rattle.gate_graph.proofs.pins.has_fanout.Goals as goal

pub returns-in-Some-clause-some : goal.returns-in-Some-clause-some
returns-in-Some-clause-some c t = (c.in-Some.field-0.0, has-front _ c.next.new.self c.in-Some.field-0.0 (sym c.fanouts-pins.ensures.list ∙ c.in-Some.ensures.steps))
