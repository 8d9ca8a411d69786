-- Definitions that no public contract reaches: words of private contracts, of invariants, and of laws for proofs.
pub mod Working
pub mod Standing
pub mod Passing
pub mod Looking
pub mod Checking
pub mod Leading
pub mod Telling
pub mod Kept
