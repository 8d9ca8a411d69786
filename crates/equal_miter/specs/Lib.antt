pub mod Miter
pub mod Laws
pub mod Equal
pub mod ModelLaws
pub mod Likeness
pub mod Refusals
pub mod Proof
pub mod Inner
