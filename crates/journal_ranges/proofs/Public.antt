-- What this crate proves of its definitions, for the proofs of the crates above. They import nothing of its proofs but through this file.

-- Runs of records put together.
pub use Rattle.journal_ranges.proofs.Fitting.{fits_then}
