-- Definitions that no public contract reaches: words of private contracts, of invariants, and of laws for proofs.
pub mod Judging
pub mod Stepping
pub mod Trees
pub mod Vectors
