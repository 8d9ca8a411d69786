pub mod ModelFaults
pub mod Valuations
pub mod Laws
pub mod Rows
