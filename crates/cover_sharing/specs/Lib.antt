pub mod Shared
pub mod Rows
pub mod Inner
