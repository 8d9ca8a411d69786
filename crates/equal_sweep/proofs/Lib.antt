pub mod Entries
pub mod Lanes
pub mod Showing
pub mod Telling
