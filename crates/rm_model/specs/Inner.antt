-- Definitions that no public contract reaches: words of private contracts, of invariants, and of laws for proofs.
pub mod Numbers
pub mod HeldNames
pub mod PlacedNames
pub mod RankedInside
pub mod Ranks
pub mod Search
pub mod SearchView
pub mod Signals
pub mod Value
pub mod WellFormed
