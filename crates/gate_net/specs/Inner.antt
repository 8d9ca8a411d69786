-- Definitions that no public contract reaches: words of private contracts, of invariants, and of laws for proofs.
pub mod Edits
pub mod Meaning
pub mod Paths
pub mod Stays
