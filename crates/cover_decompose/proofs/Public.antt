-- What this crate proves of its definitions, for the proofs of the crates above. They import nothing of its proofs but through this file.

-- Names among names.
pub use Rattle.cover_decompose.proofs.Members.{among_in, in_among}

-- Names in a table, by their places.
