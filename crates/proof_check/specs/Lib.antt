pub mod Flaws
pub mod Refusals
pub mod Laws
pub mod Inner
