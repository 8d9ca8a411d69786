-- Definitions that no public contract reaches: words of private contracts, of invariants, and of laws for proofs.
pub mod Built
pub mod Chosen
pub mod Places
pub mod Plan
pub mod PlanView
pub mod Signals
pub mod Tally
