pub mod Problems
pub mod Pieces
