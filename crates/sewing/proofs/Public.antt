-- What this crate proves of its definitions, for the proofs of the crates above. They import nothing of its proofs but through this file.
-- What holds of all items of a list, by what stands in it.
pub use Rattle.sewing.proofs.Members.{all-in, in-all}
