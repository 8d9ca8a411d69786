-- Definitions that no public contract reaches.
pub mod Stops
pub mod Taking
