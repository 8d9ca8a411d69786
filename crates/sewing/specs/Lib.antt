pub mod Windows
pub mod Names
pub mod Sewn
pub mod Laws
pub mod Rows
pub mod Inner
