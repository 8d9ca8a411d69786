pub mod Runs
pub mod Answered
pub mod Hiding
pub mod Steps
pub mod Looping
pub mod Lanes
pub mod Judgings
