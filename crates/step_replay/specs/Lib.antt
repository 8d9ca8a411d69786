pub mod Rebuilding
pub mod Inner
