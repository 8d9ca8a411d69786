-- Definitions that no public contract reaches: words of private contracts, of invariants, and of laws for proofs.
pub mod Walk
pub mod Tokens
pub mod Said
pub mod Interfaces
pub mod Uses
pub mod Leads
pub mod Ranks
pub mod Rounds
pub mod Sizes
pub mod Reading
