-- Definitions that no public contract reaches: words of private contracts, of invariants, and of laws for proofs.
pub mod Batches
pub mod ReplayStates
pub mod Replaying
pub mod Standing
pub mod Tracing
pub mod Vectors
pub mod Within
