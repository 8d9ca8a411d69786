-- Definitions that no public contract reaches: words of private contracts and of invariants.
pub mod Encoding
pub mod Placed
pub mod Standing
