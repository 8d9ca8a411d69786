pub mod Evidence
pub mod Shown
pub mod Laws
pub mod Inner
