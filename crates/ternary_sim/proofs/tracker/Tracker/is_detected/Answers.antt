use Rattle.ternary_sim.proofs.Watching.{detected_watched}
use Rattle.ternary_sim.proofs.tracker.Tracker.is_detected.Goals as goal

pub returns : goal.returns
returns c net suits =
    let suits' = rw (← c.self.view_is) at suits in
    rw (← c.self.view_is) (detected_watched net c.self.inside.table c.some_differs.result suits'.watched c.some_differs.ensures)
