pub mod Noting
pub mod Public
