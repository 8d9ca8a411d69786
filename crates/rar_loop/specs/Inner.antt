-- Definitions that no public contract reaches: words of private contracts, of invariants, and of laws for proofs.
pub mod Exchanging
pub mod Improving
pub mod Kept
pub mod Perturbing
pub mod Spaces
pub mod Swept
pub mod Trying
pub mod Walking
