-- Definitions that no public contract reaches: words of private contracts, of invariants, and of laws for proofs.
pub mod Branching
pub mod Choosing
pub mod Going
pub mod Waiting
