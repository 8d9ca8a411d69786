pub mod Beginnings
pub mod Makeable
pub mod Readying
pub mod Leading
pub mod Looping
