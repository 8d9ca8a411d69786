pub mod Order
pub mod Cut
pub mod Windows
pub mod Laws
pub mod Rows
pub mod Inner
