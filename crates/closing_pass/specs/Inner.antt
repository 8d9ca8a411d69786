-- Definitions that no public contract reaches: words of private contracts, of invariants, and of laws for proofs.
pub mod Blocks
pub mod Closing
pub mod Findings
pub mod Passing
pub mod Searching
pub mod Trying
pub mod Used
