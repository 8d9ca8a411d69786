-- Definitions that no public contract reaches: words of private contracts, of invariants, and of laws for proofs.
pub mod Chains
