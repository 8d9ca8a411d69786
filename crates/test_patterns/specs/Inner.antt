-- Definitions that no public contract reaches: words of private contracts and of invariants.
pub mod Drafts
pub mod Groups
