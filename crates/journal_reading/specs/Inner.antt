-- Definitions that no public contract reaches.
pub mod Faults
pub mod Readers
