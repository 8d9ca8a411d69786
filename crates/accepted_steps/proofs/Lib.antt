pub mod Leading
pub mod Placing
pub mod SoFar
pub mod Entering
pub mod Journals
