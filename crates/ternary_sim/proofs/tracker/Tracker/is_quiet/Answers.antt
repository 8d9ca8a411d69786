use Rattle.ternary_sim.proofs.Watching.{quiet_watched}
use Rattle.ternary_sim.proofs.tracker.Tracker.is_quiet.Goals as goal

pub returns : goal.returns
returns c net suits =
    let suits' = rw (← c.self.view_is) at suits in
    rw (← c.self.view_is) (quiet_watched net c.self.inside.table c.all_equal.result suits'.watched c.all_equal.ensures)
