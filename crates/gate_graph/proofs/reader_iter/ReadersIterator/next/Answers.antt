use Rattle.std.proofs.Common.{ℕ, ◌∷◌, map, ap, sym, ◌∙◌}
use Rattle.pin_pool.specs.Pins.{list_of}
use Rattle.gate_graph.specs.Circuit.{home, without_observed}
use Rattle.gate_graph.proofs.NetOf.{home-here}
use Rattle.gate_graph.proofs.reader_iter.ReadersIterator.next.Goals as goal

pub returns-clause-steps : goal.returns-clause-steps
returns-clause-steps c =
    let v = c.self.inside.pool.now in
    sym c.self.view_is ∙ ap (map (home v.inputs)) c.in-Some.ensures.some
    ∙ ap (λ (n : ℕ). n ∷ map (home v.inputs) (without_observed (list_of v.inputs 0) c.next_reading.new.pins)) (home-here v.inputs _ c.in-Some.pin.0 c.gate_of.result c.self.invariant.0.inputs c.gate_of.ensures.gate)
