use Rattle.std.proofs.Common.{ℕ, ◌∷◌, map, ap, sym, ◌∙◌}
use Rattle.pin_pool.specs.Pins.{list_of}
use Rattle.gate_graph.specs.Circuit.{reader, without_observed}
use Rattle.gate_graph.proofs.Placed.{reader-at}
use Rattle.gate_graph.proofs.fanout_iter.FanoutsIterator.next.Goals as goal

pub returns-clause-steps : goal.returns-clause-steps
returns-clause-steps c =
    let v = c.self.inside.pool.now in
    sym c.self.view_is ∙ ap (map (reader v)) c.in-Some.ensures.some
    ∙ ap (λ (x : ℕ × ℕ). x ∷ map (reader v) (without_observed (list_of v.inputs 0) c.next_reading.new.pins)) (reader-at v c.in-Some.pin.0 c.gate_of-gate.result c.place_of-position.result c.self.invariant.0 c.gate_of-gate.ensures.gate c.place_of-position.ensures)
