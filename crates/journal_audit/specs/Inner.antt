-- Definitions that no public contract reaches: words of private contracts, of invariants, and of laws for proofs.
pub mod Audited
pub mod Judging
pub mod Problems
pub mod Stages
pub mod Tallies
pub mod Turns
