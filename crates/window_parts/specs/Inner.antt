-- Definitions that no public contract reaches: words of private contracts, and laws for proofs.
pub mod Laws
pub mod Ready
pub mod Stops
