-- What this crate proves of its definitions, for the proofs of the crates above. They import nothing of its proofs but through this file.

-- The first marks of a fault.
pub use Rattle.ternary_sim.proofs.Beginnings.{if_ok}
-- What is known of a node itself counts at a source alone.
pub use Rattle.ternary_sim.proofs.Loops.{own_counts}
-- A reading of what a fault concerns, and one of the whole net.
pub use Rattle.ternary_sim.proofs.Wholes.{driver_matters, driver_matters_too, driver_of_concerned, touched_next}
