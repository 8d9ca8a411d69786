-- Definitions that no public contract reaches: words of private contracts, of invariants, and of laws for proofs.
pub mod Drafts
pub mod Paired
pub mod Progress
pub mod Ranked
pub mod Said
pub mod Tally
pub mod Views
