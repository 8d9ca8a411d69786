pub mod Emptiness
pub mod Rebuilt
pub mod Windows
pub mod Taking
pub mod Staying
