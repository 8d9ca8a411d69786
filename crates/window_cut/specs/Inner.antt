-- Definitions that no public contract reaches: words of private contracts, of invariants, and of laws for proofs.
pub mod Levels
pub mod Models
pub mod Places
pub mod Reading
pub mod Walk
pub mod Weights
