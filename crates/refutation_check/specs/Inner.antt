-- Definitions that no public contract reaches: words of private contracts, of invariants, and of laws for proofs.
pub mod Kept
pub mod Notes
pub mod Shapes
pub mod Standing
pub mod Walks
