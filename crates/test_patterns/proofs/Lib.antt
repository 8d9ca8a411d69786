pub mod Lanes
pub mod Gathered
pub mod Marked
pub mod Extended
pub mod Assigned
pub mod Leading
