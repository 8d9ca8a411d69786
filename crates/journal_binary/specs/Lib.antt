pub mod Binary
pub mod Fronts
pub mod Faults
pub mod Streams
pub mod Laws
pub mod Inner
