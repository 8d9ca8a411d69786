-- Definitions that no public contract reaches: words of private contracts, of invariants, and of laws for proofs.
pub mod BlockStates
pub mod Chaining
pub mod Following
pub mod Notes
pub mod Pending
pub mod Simulating
pub mod Spreading
pub mod Words
