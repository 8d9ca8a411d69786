-- What this crate proves of its definitions, for the proofs of the crates above. They import nothing of its proofs but through this file.
-- Replaying records one after another.
pub use Rattle.journal_check.proofs.LoopLaws.{handed_on}
-- Accepted steps keep a net small enough for trials.
pub use Rattle.journal_check.proofs.WithinLaws.{nodes_bounded, stays_within, wires_bounded, within_few}
