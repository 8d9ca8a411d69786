-- What this crate proves of its definitions, for the proofs of the crates above. They import nothing of its proofs but through this file.

-- The text of a journal by its parts, and a file that is put and then appended to.
pub use Rattle.optimisation.proofs.Texts.{put_then, put_there, whole_text}
