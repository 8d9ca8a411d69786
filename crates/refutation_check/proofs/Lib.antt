pub mod Trails
pub mod Branchings
pub mod Quiets
pub mod Splits
pub mod Turnings
pub mod Steps
pub mod OneRefusal
pub mod Sizes
