pub mod Joining
pub mod Candidates
pub mod Pairs
pub mod Gains
pub mod Additions
pub mod Tries
pub mod Laws
pub mod Inner
