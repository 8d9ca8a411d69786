-- Definitions that no public contract reaches: words of private contracts, of invariants, and of laws for proofs.
pub mod Marks
pub mod Settling
pub mod ValueTables
pub mod Sims
pub mod Tracking
