-- What this crate proves of its definitions, for the proofs of the crates above. They import nothing of its proofs but through this file.

-- Lists of records put together.
pub use Rattle.journal_text.proofs.Joined.{accepted_then, records_then, steps_then}
-- Texts by their lines.
pub use Rattle.journal_text.proofs.FaultLaws.{lines_before}
-- A text is the journal of one budget and one list of records at most, and has no fault then.
pub use Rattle.journal_text.proofs.OneLaws.{line_one, record_is}
