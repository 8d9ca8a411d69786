-- What this crate proves of its definitions, for the proofs of the crates above. They import nothing of its proofs but through this file.

-- Kinds of nodes, and the least free number.
pub use Rattle.candidate_wires.proofs.KindOf.{least_is}
-- A turn has targets alone.
pub use Rattle.candidate_wires.proofs.Turns.{of_turn}
