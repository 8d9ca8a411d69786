-- Definitions that no public contract reaches: words of private contracts, of invariants, and of laws for proofs.
pub mod Complete
pub mod Cut
pub mod Sew
pub mod Equal
pub mod Judge
pub mod Pairs
pub mod Optcare
pub mod Composition
pub mod Files
pub mod Problems
pub mod Tests
pub mod Written
