-- Definitions that no public contract reaches: words of private contracts, of invariants, and of laws for proofs.
pub mod Changes
pub mod Edited
pub mod Firsts
pub mod Known
pub mod Marked
pub mod Refusals
pub mod Removals
pub mod Tests
pub mod Touched
pub mod Trials
