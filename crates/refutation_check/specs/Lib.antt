pub mod FirstRefusal
pub mod Shapes
pub mod Laws
pub mod Inner
