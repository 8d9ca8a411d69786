-- What this crate proves of its definitions, for the proofs of the crates above. They import nothing of its proofs but through this file.

-- The pin of a miter's fault is there.
pub use Rattle.equal_evidence.proofs.Last.{fault_has_pin}
-- The records of a text can be written.
pub use Rattle.equal_evidence.proofs.Putting.{entries_writable}
