-- Definitions that no public contract reaches: words of private contracts, of invariants, and of laws for proofs.
pub mod Begun
pub mod Ended
pub mod Filled
pub mod RunErrors
pub mod Ran
pub mod Staged
pub mod Turned
