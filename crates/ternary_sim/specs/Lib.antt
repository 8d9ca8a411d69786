pub mod Marks
pub mod Sims
pub mod Regions
pub mod ValueTables
pub mod Tracking
pub mod Inner
