-- Definitions that no public contract reaches.
pub mod Pieces
