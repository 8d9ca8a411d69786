-- Definitions that no public contract reaches: words of private contracts, of invariants, and of laws for proofs.
pub mod Circuit
pub mod Emptied
pub mod Filled
pub mod Holds
pub mod Order
pub mod Search
pub mod Totals
pub mod Wirings
