pub mod Part
pub mod Refusals
pub mod Inner
