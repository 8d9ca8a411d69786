-- Definitions that no public contract reaches: words of private contracts, of invariants, and of laws for proofs.
pub mod Bases
pub mod Beginning
pub mod Counts
pub mod Pulls
pub mod Rises
pub mod Settled
pub mod Sides
pub mod Tallies
pub mod Trail
pub mod Working
