-- Definitions that no public contract reaches: words of private contracts, of invariants, and of laws for proofs.
pub mod Answers
pub mod Bodies
pub mod Common
pub mod Gates
pub mod Holding
pub mod JustifiedValues
pub mod Resting
pub mod Serving
pub mod Telling
pub mod Watching
pub mod Working
pub mod Writing
