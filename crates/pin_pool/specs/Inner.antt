-- Definitions that no public contract reaches: words of private contracts, of invariants, and of laws for proofs.
pub mod Links
pub mod Marks
pub mod Places
pub mod Pointed
pub mod Records
pub mod Ring
pub mod Totals
