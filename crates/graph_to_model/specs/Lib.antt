pub mod Names
pub mod NetModel
pub mod Wires
pub mod Fits
pub mod Laws
pub mod Rows
pub mod Refusals
pub mod Inner
