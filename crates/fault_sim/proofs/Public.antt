-- What this crate proves of its definitions, for the proofs of the crates above. They import nothing of its proofs but through this file.

-- What a lane of words is.
pub use Rattle.fault_sim.proofs.LaneLaws.{lane_and, lane_not, lane_zero}
-- Lanes in which an observed node differs.
pub use Rattle.fault_sim.proofs.Seeing.{first_lane}
-- Which nodes an edit changes.
pub use Rattle.fault_sim.proofs.ChangedNodes.{unread_same}
