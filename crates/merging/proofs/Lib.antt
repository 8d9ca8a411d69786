pub mod Sizing
pub mod GoingOn
pub mod Merges
